use Rattle.std.proofs.Common.{◌∷◌, [], ◌++◌, ◌∙◌}
use Rattle.def_history.specs.declared.entry.Entry.TheVariants.{Broke}
use Rattle.def_history.specs.declared.outcome.Outcome.TheVariants.{DiskFault}
use Rattle.boss_shared.proofs.Together.{undone_made}
use Rattle.boss_shared.proofs.asked.fail_all.Goals as goal

pub returns-in-Some-clause-mark : goal.returns-in-Some-clause-mark
returns-in-Some-clause-mark c =
    let un = c.undo.ensures in
    let stopped = c.stop_all.ensures in (
      c.in-Some.first.now,
      c.in-Some.others.now,
      c.in-Some.ensures.cases.0,
      (λ i. undone_made DiskFault c.undo.new.self c.stop_all.new.group (record { none = un.answers.0; outcomes = un.outcomes }) i ++ stopped.nothing i)
          ∙ (λ i. Broke (un.asked.0 i) (un.asked.1 i) (stopped.tried i) ∷ []),
    )
