use Rattle.std.proofs.Common.{◌≡◌, ◌++◌, codes}
use Rattle.std.specs.List.{flat_map, range_with_len}
use Rattle.boss_load.specs.Day.{point_text}
use Rattle.boss_load.proofs.catalogue.load_catalogue.Given as goal

-- the points so far
abbrev pub invariant-loop-point : goal.invariant-loop-point
invariant-loop-point l = l.file.items ≡ codes "drivers = [\"field\"]\n" ++ flat_map point_text (range_with_len 0 l.point)
