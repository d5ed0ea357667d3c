use Rattle.std.proofs.Common.{◌≡◌, ◌<◌, length, get_or, sym, ap, ◌∙◌, arith}
use Rattle.boss_model.specs.Processes.{name_of}
use Rattle.boss_model.specs.Replies.{reply_of}
use Rattle.boss_persistent.specs.Processes.{process_at}
use Rattle.boss_persistent.proofs.Side.{blank, length-processes_of, name-there, process_at-there, reply-there}
use Rattle.boss_persistent.proofs.processes.Processes.keep.Goals as goal

pub keep-requires : goal.keep-requires
keep-requires c =
    let all : length c.args.self.now ≡ length c.self.inside.entries.items = rw (← c.self.view_is) (length-processes_of c.self.inside.entries.items c.self.inside.rings c.self.invariant.0) in
    omega arith

pub returns : goal.returns
returns c =
    let entries = c.self.inside.entries.items in
    let rings = c.self.inside.rings in
    let process = c.args.process in
    let all : length c.args.self.now ≡ length entries = rw (← c.self.view_is) (length-processes_of entries rings c.self.invariant.0) in
    let inside : process < length entries = omega arith in
    let name : c.name.result ≡ (get_or entries process blank).name =
    c.name.ensures ∙ ap (λ ps. name_of ps process) (sym c.self.view_is) ∙ name-there entries rings process c.self.invariant.0 inside in
    let reply : c.reply.result ≡ (get_or entries process blank).reply =
    c.reply.ensures ∙ ap (λ ps. reply_of ps process) (sym c.self.view_is) ∙ reply-there entries rings process c.self.invariant.0 inside in
    (λ i. record { name = name i; count = c.in_ok-count.ensures.count i; kept = c.in_ok-count.ensures.notices i; reply = reply i })
    ∙ sym (process_at-there entries rings process c.self.invariant.0 inside) ∙ ap (λ ps. process_at ps process) c.self.view_is
