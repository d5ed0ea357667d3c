use Rattle.boss_shared.proofs.Together.{AreStopped}
use Rattle.boss_shared.proofs.asked.stop_all.Given as goal

abbrev pub invariant-loop-asked : goal.invariant-loop-asked
invariant-loop-asked l = AreStopped l.asked-index l.initial.group l.group
