use Rattle.std.proofs.Common.{◌+◌, ◌*◌, vec_len}
use Rattle.boss_outside_server.proofs.running.+fn-side_by_side-run_front+side_by_side.Given as goal

-- the call of `side_by_side` in the closure has one task less, and the closure stands between the two
abbrev pub decreases-run_front : goal.decreases-run_front
decreases-run_front g l = 2 * vec_len l.front + 1

abbrev pub decreases-side_by_side : goal.decreases-side_by_side
decreases-side_by_side g l = 2 * vec_len l.planned
