-- Source: own.
-- The plant of the load.
use Rattle.std.specs.Prelude.{ℕ, pos, List, [], ◌∷◌, ◌++◌, map, codes, decimal}
use Rattle.std.specs.List.{range_with_len}
use Rattle.boss_model.specs.declared.point.Kind.TheVariants.{Analog}
use Rattle.boss_model.specs.Catalogue.{Catalogue, Point}

-- an analog point, from 0 to 100,000 in thousandths of the unit
abbrev pub point_numbered : ℕ → Point
point_numbered number = record {
  name = codes "p" ++ decimal number;
  actuator = record { kind = Analog (pos 0) (pos 100000); default = pos 20000; driver = 0 };
  min_on = pos 0;
  min_off = pos 0;
}

-- forty of them, behind one driver
abbrev pub plant : Catalogue
plant = record { drivers = codes "field" ∷ []; points = map point_numbered (range_with_len 0 40) }
