use Rattle.std.proofs.Common.{◌≡◌}
use Rattle.boss_model.specs.Settle.{is_retried, retried}
use Rattle.boss_marks.proofs.Rounds.{turned_below}
use Rattle.boss_marks.proofs.marks.Marks.retry_due.Given as goal

-- the points below `point` had their turn
abbrev pub invariant-loop-point : goal.invariant-loop-point
invariant-loop-point l = l.self ≡ turned_below (is_retried l.n) retried l.point l.initial.self
