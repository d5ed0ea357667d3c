use Rattle.std.proofs.Common.{◌≡◌, ◌<◌, ◌≤◌, length, set, get_or, Some, sym, ap, ◌∙◌, arith}
use Rattle.std.proofs.lemmas.List.{get_or_read}
use Rattle.boss_model.specs.Replies.{keep_reply}
use Rattle.boss_persistent.specs.declared.processes.Entry.{Entry}
use Rattle.boss_persistent.specs.Processes.{processes_of}
use Rattle.boss_persistent.proofs.Side.{blank, kept-nowhere, kept-there}
use Rattle.boss_persistent.proofs.processes.Processes.keep_reply.Goals as goal

pub returns-then-place-len : goal.returns-then-place-len
returns-then-place-len c =
    let entries = c.self.inside.entries.items in
    let rings = c.self.inside.rings in
    let reply = c.args.reply in
    let place : c.process.inside.0 ≡ c.args.process = c.process.view_is in
    let inside : c.process.inside.0 < length entries = omega (arith, c.self.inside.entries.ok.0) in
    let there : c.index_mut.result.now ≡ get_or entries c.process.inside.0 blank = get_or_read entries c.process.inside.0 c.index_mut.result.now inside c.index_mut.ensures.value blank in
    ap (λ (entry : Entry). processes_of (set entries c.process.inside.0 (record entry { reply = Some reply })) rings) there
    ∙ kept-there entries rings c.process.inside.0 c.self.invariant.0 reply inside
    ∙ (λ i. keep_reply (place i) reply.seq (Some reply.acceptance) (c.self.view_is i))

pub returns-else-place-len : goal.returns-else-place-len
returns-else-place-len c =
    let entries = c.self.inside.entries.items in
    let reply = c.args.reply in
    let place : c.process.inside.0 ≡ c.args.process = c.process.view_is in
    let past : length entries ≤ c.process.inside.0 = omega (arith, c.self.inside.entries.ok.0) in
    sym (ap (λ processes. keep_reply c.args.process reply.seq (Some reply.acceptance) processes) (sym c.self.view_is)
    ∙ ap (λ at. keep_reply at reply.seq (Some reply.acceptance) (processes_of entries c.self.inside.rings)) (sym place)
    ∙ kept-nowhere entries c.self.inside.rings c.process.inside.0 c.self.invariant.0 reply.seq reply.acceptance past
    ∙ c.self.view_is)
