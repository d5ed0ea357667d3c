use Rattle.std.proofs.Common.{◌≡◌, map, drop}
use Rattle.boss_points.specs.declared.refusal.CatalogueRefusal.TheVariants.{SameName}
use Rattle.boss_points.specs.Keys.{name_of}
use Rattle.boss_points.specs.Reading.{distinct, distinct_from}
use Rattle.boss_points.specs.Seen.{views, texts}
use Rattle.boss_points.proofs.tables.distinct_names.Given as goal

-- what the names so far and those to come give is what all give
abbrev pub invariant-loop-at : goal.invariant-loop-at
invariant-loop-at l =
    distinct_from l.at (texts l.names.keys) SameName (map name_of (views (drop l.at l.points))) ≡ distinct SameName (map name_of (views l.points))
