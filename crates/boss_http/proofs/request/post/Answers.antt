use Rattle.std.proofs.Common.{◌∙◌}
use Rattle.boss_http.proofs.Requests.{posts}
use Rattle.boss_http.proofs.request.post.Goals as goal

pub returns : goal.returns
returns c =
    posts c.in_ok-request.request.items c.extend_from_slice.new.self.items c.extend_from_slice-2.new.self.items c.extend_from_slice-3.new.self.items
    c.extend_from_slice-4.new.self.items c.extend_from_slice-5.new.self.items c.extend_from_slice-6.new.self.items c.extend_from_slice-7.new.self.items
    c.args.path.now c.args.host.now c.as_bytes.result.now c.args.body.now
    c.in_ok-request.ensures.items c.in_ok-extend_from_slice.ensures.items c.in_ok-extend_from_slice-2.ensures.items c.in_ok-extend_from_slice-3.ensures.items
    c.in_ok-extend_from_slice-4.ensures.items c.in_ok-extend_from_slice-5.ensures.items c.in_ok-extend_from_slice-6.ensures.items
    c.in_ok-extend_from_slice-7.ensures.items (c.as_bytes.ensures.value ∙ c.format.ensures.text)
