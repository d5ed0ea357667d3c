use Rattle.std.proofs.Common.{◌≡◌, sym, ap, subst, ◌∙◌}
use Rattle.boss_model.specs.declared.event.Event.{Event}
use Rattle.boss_opening.specs.Again.{LeadsOn}
use Rattle.def_disk_pair.proofs.Replays.{some-is}
use Rattle.boss_opening.proofs.Splits.{some_byte}
use Rattle.boss_opening.proofs.replaying.replay_first.Goals as goal

pub returns-then-done-clause-begins : goal.returns-then-done-clause-begins
returns-then-done-clause-begins c =
    let found = rw c.in-Ok-Some.field-0-is at c.in-Ok-Some.ensures.found in
    record {
      first = c.in-Ok-Some.event;
      next = c.in-Ok.ensures.leads c.if-done.true;
      within = found.0;
      is = found.2;
      some_byte = some_byte c.in-Ok-Some.event c.in-Ok-Some.size c.args.bytes.now found.2;
    }

pub returns-in-Ok-clause-none : goal.returns-in-Ok-clause-none
returns-in-Ok-clause-none c none e rest to is leads =
    let found = sym c.in-Ok-Some.field-0-is ∙ c.in-Ok-Some.ensures.only e rest leads.spelled is in
    let same : c.in-Ok-Some.event ≡ e = ap (λ read. read.0) (some-is _ _ found) in
    c.in-Ok.ensures.nowhere c.if-done.false to
    (subst (λ (x : Event). LeadsOn c.args.engine.now.plant c.args.version c.args.engine.now.state.persistent x to) (sym same) leads)
