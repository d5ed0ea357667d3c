use Rattle.std.proofs.Common.{◌≡◌, List}
use Rattle.boss_shared.specs.declared.asked.Asked.{Asked}
use Rattle.boss_shared.proofs.Along.{IsAlong}
use Rattle.boss_memory_keeper.proofs.Groups.{HasServed}
use Rattle.boss_memory_keeper.proofs.stepping.step_together.Given as goal

abbrev pub invariant-loop-asked : goal.invariant-loop-asked
invariant-loop-asked l = (l.engine.plant ≡ l.fn.engine.plant)
    × (done : List Asked) × IsAlong l.fn.group l.group l.asked-index done × HasServed l.fn.engine.plant l.fn.engine.state l.engine.state l.fn.count l.count done
