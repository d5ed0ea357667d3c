use Rattle.std.proofs.Common.{◌≡◌, map, drop}
use Rattle.std.specs.Prelude.{filter_map}
use Rattle.boss_model.specs.Lists.{first_some}
use Rattle.boss_model.specs.Renew.{part_on}
use Rattle.boss_persistent.proofs.refusals.first_end.Given as goal

-- no part on a point so far ended
abbrev pub invariant-loop-point : goal.invariant-loop-point
invariant-loop-point l =
    first_some (map (λ part. part.end) (filter_map (part_on l.parts) l.points)) ≡ first_some (map (λ part. part.end) (filter_map (part_on l.parts) (drop l.point-index l.points)))
