use Rattle.std.proofs.Common.{◌∙◌}
use Rattle.boss_etcd.proofs.Texts.{head_chain}
use Rattle.boss_etcd.proofs.head.head_text.Goals as goal

pub returns : goal.returns
returns c =
    head_chain c.in_ok-text.text.items c.extend_from_slice.new.self.items c.extend_from_slice-2.new.self.items c.extend_from_slice-3.new.self.items
    c.extend_from_slice-4.new.self.items c.extend_from_slice-5.new.self.items c.args.owner.now c.as_bytes.result.now c.as_bytes-2.result.now
    c.args.number c.args.length c.in_ok-text.ensures.items c.in_ok-extend_from_slice.ensures.items c.in_ok-extend_from_slice-2.ensures.items
    c.in_ok-extend_from_slice-3.ensures.items c.in_ok-extend_from_slice-4.ensures.items c.in_ok-extend_from_slice-5.ensures.items
    (c.as_bytes.ensures.value ∙ c.format.ensures.text) (c.as_bytes-2.ensures.value ∙ c.format-2.ensures.text)
