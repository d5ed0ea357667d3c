use Rattle.std.proofs.Common.{◌≡◌, ℕ, List}
use Rattle.boss_shared.specs.declared.asked.Asked.{Asked}
use Rattle.boss_shared.proofs.Along.{IsAlong}
use Rattle.boss_memory_keeper.proofs.Groups.{HasServed}
use Rattle.trial_keeper.proofs.stepping.step_together.Given as goal

-- Nobody counts events here, so any count does.
abbrev pub invariant-loop-asked : goal.invariant-loop-asked
invariant-loop-asked l = (l.unkept.engine.plant ≡ l.fn.unkept.engine.plant)
    × (done : List Asked) × IsAlong l.fn.group l.group l.asked-index done
    × (count : ℕ) × HasServed l.fn.unkept.engine.plant l.fn.unkept.engine.state l.unkept.engine.state 0 count done
