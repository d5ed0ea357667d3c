use Rattle.std.proofs.Common.{◌≡◌, length, map, drop}
use Rattle.boss_points.specs.declared.refusal.CatalogueRefusal.TheVariants.{BadDriver}
use Rattle.boss_points.specs.Keys.{name_spelled}
use Rattle.boss_points.specs.Reading.{distinct, distinct_from}
use Rattle.boss_points.specs.Seen.{views}
use Rattle.boss_points.proofs.tables.drivers_of.Given as goal

-- what the names so far and those to come give is what all give; there are as many as were read
abbrev pub invariant-loop-at : goal.invariant-loop-at
invariant-loop-at l = record {
  told : distinct_from l.at l.drivers.items BadDriver (map name_spelled (views (drop l.at l.values))) ≡ distinct BadDriver (map name_spelled (views l.values));
  count : length l.drivers.items ≡ l.at;
}
