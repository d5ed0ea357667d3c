use Rattle.std.proofs.Common.{◌-◌, length}
use Rattle.boss_timers.proofs.heap.+make_way.Given as goal

abbrev pub decreases-make_way : goal.decreases-make_way
decreases-make_way g l = length l.moments.now - l.at
