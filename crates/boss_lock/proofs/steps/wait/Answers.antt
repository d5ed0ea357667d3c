use Rattle.std.proofs.Common.{ap, ◌∙◌, rules, arith}
use Rattle.boss_lock.specs.Steps.{Knower}
use Rattle.boss_lock.proofs.Keeps.{looks}
use Rattle.boss_lock.proofs.steps.wait.Goals as goal

pub load-serving-requires : goal.load-serving-requires
load-serving-requires g c =
    let own = c.requires.own in
    let kept = c.loop.invariant in (
      search rules,
      omega arith,
      looks _ _ _ _ _ _ _ (ap (λ (m : Knower g.row.V.Denot g.row.V-Start.Denot g.row.V-Entry.Denot). m.0.stage) kept.1 ∙ c.requires.waiting),
    )
