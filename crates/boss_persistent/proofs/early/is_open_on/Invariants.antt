use Rattle.std.proofs.Common.{◌≡◌, ◌==◌, false, take}
use Rattle.std.specs.List.{list_any}
use Rattle.boss_persistent.proofs.early.is_open_on.Given as goal

-- no part so far is on this point
abbrev pub invariant-loop-part : goal.invariant-loop-part
invariant-loop-part l = list_any (λ part. part.point == l.point) (take l.part-index l.parts) ≡ false
