use Rattle.std.proofs.Common.{◌≡◌}
use Rattle.boss_marks.proofs.Rounds.{turned_below}
use Rattle.boss_persistent.specs.Lasting.{persistent_of}
use Rattle.boss_engine.proofs.Reopened.{any, anew}
use Rattle.boss_engine.proofs.reopening.start_all.Given as goal

-- the points below `place` are started
abbrev pub invariant-loop-place : goal.invariant-loop-place
invariant-loop-place l = l.marks ≡ turned_below any (anew l.plant (persistent_of l.fn.lasting)) l.place l.fn.marks
