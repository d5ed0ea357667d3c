use Rattle.std.proofs.Common.{◌≡◌, map, max, drop}
use Rattle.std.specs.Prelude.{filter_map}
use Rattle.boss_model.specs.Lists.{latest}
use Rattle.boss_persistent.proofs.refusals.last_part_end.Given as goal

-- the last end of those so far, and those that are left
abbrev pub invariant-loop-part : goal.invariant-loop-part
invariant-loop-part l =
    latest (map (λ end. end.at) (filter_map (λ part. part.end) l.parts)) ≡ max l.last (latest (map (λ end. end.at) (filter_map (λ part. part.end) (drop l.part-index l.parts))))
