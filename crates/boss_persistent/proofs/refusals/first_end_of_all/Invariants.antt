use Rattle.std.proofs.Common.{◌≡◌, map, drop}
use Rattle.boss_model.specs.Lists.{first_some}
use Rattle.boss_persistent.proofs.refusals.first_end_of_all.Given as goal

-- no part so far ended
abbrev pub invariant-loop-part : goal.invariant-loop-part
invariant-loop-part l = first_some (map (λ part. part.end) l.parts) ≡ first_some (map (λ part. part.end) (drop l.part-index l.parts))
