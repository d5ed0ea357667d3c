use Rattle.std.proofs.Common.{arith}
use Rattle.boss_marks.proofs.Links.{IsLine-empty, IsLine-walked}
use Rattle.boss_marks.proofs.line.Line.new.Goals as goal

pub invariant_of-result : goal.invariant_of-result
invariant_of-result c =
    IsLine-walked (IsLine-empty c.args.room _ _ _ (omega (arith, c.in_ok-vec.ensures.len)) (omega (arith, c.in_ok-vec-2.ensures.len)) (c.in_ok-vec-3.ensures.items_if_clones_equal (λ _ same. same)))
