use Rattle.boss_timers.proofs.heap.+rise.Given as goal

abbrev pub decreases-rise : goal.decreases-rise
decreases-rise g l = l.at
