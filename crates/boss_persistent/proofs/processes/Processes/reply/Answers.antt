use Rattle.std.proofs.Common.{◌≡◌, ◌<◌, ◌≤◌, length, sym, ap, ◌∙◌, arith}
use Rattle.std.proofs.lemmas.List.{get_or_read}
use Rattle.boss_model.specs.Replies.{reply_of}
use Rattle.boss_persistent.specs.declared.processes.Entry.{Entry}
use Rattle.boss_persistent.proofs.Side.{blank, reply-nowhere, reply-there}
use Rattle.boss_persistent.proofs.processes.Processes.reply.Goals as goal

pub returns-then-place-len : goal.returns-then-place-len
returns-then-place-len c =
    let entries = c.self.inside.entries.items in
    let place : c.process.inside.0 ≡ c.args.process = c.process.view_is in
    let inside : c.process.inside.0 < length entries = omega (arith, c.self.inside.entries.ok.0) in
    ap (λ (entry : Entry). entry.reply) (get_or_read entries c.process.inside.0 c.index.result.now inside c.index.ensures blank)
    ∙ sym (reply-there entries c.self.inside.rings c.process.inside.0 c.self.invariant.0 inside)
    ∙ (λ i. reply_of (c.self.view_is i) (place i))

pub returns-else-place-len : goal.returns-else-place-len
returns-else-place-len c =
    let entries = c.self.inside.entries.items in
    let place : c.process.inside.0 ≡ c.args.process = c.process.view_is in
    let past : length entries ≤ c.process.inside.0 = omega (arith, c.self.inside.entries.ok.0) in
    sym (reply-nowhere entries c.self.inside.rings c.process.inside.0 c.self.invariant.0 past)
    ∙ (λ i. reply_of (c.self.view_is i) (place i))
