use Rattle.std.proofs.Common.{◌≡◌, ℕ, true, Some, length}
use Rattle.boss_model.specs.Lists.{member}
use Rattle.boss_marks.specs.Line.{behind}
use Rattle.boss_marks.specs.Wants.{first_of}
use Rattle.boss_marks.proofs.Firsts.{onward}
use Rattle.boss_marks.proofs.wants.Wants.first_behind.Given as goal

abbrev pub invariant-loop-next : goal.invariant-loop-next
invariant-loop-next l = record {
  left : first_of l.self-inside.drivers.items l.driver (onward l.next l.self-inside.line.points) ≡ first_of l.self-inside.drivers.items l.driver (behind l.fn.point l.self-inside.line.points);
  stands : (want : ℕ) → l.next ≡ Some want → member want l.self-inside.line.points ≡ true;
}

abbrev pub decreases-loop-next : goal.decreases-loop-next
decreases-loop-next l = length (onward l.next l.self-inside.line.points)
