use Rattle.std.proofs.Common.{◌≡◌, [], ◌++◌, sym, ap, ◌∙◌, append-nil}
use Rattle.def_bytes.specs.Batches.{batch_text}
use Rattle.def_bytes.specs.Events.{event}
use Rattle.def_history.specs.History.{if_event}
use Rattle.boss_model.specs.Effects.{event_of}
use Rattle.boss_durable.proofs.Events.{some_event}
use Rattle.boss_durable.proofs.batch.Batch.put_event.Goals as goal

pub returns-clause-bytes : goal.returns-clause-bytes
returns-clause-bytes c =
    let found = some_event c.args.command.now c.args.effect.now c.requires.changed in
    let is : event.text found.0 ≡ batch_text (if_event (event_of c.args.command.now c.args.effect.now) []) =
    sym (append-nil (event.text found.0)) ∙ ap (λ e. batch_text (if_event e [])) (sym found.1) in
    c.write_event.ensures found.0 found.1
    ∙ ap (λ more. record { bytes = c.args.self.now.bytes.bytes ++ more; capacity = c.args.self.now.bytes.capacity }) is
