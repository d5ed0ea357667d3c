-- Source: own (over TOML 1.0.0).
-- What contracts see of the values that a file's table has, and of what a catalogue keeps.
use Rattle.std.specs.Prelude.{ℕ, List, map, Vec}
use Rattle.std.specs.declared.alloc.Global.{Global}
use Rattle.toml.specs.Data.{Data}
use Rattle.toml.specs.View.{view}
use Rattle.toml.specs.declared.value.Value.{Value}
use Rattle.boss_model.specs.Catalogue.{Point}
use Rattle.boss_points.specs.declared.point.Point.{Point as Kept}

abbrev pub views : List Value → List Data
views values = map view values

-- keys of a set, as the names that they are
abbrev pub texts : List (Vec ℕ Global) → List (List ℕ)
texts keys = map (λ key. key.items) keys

abbrev pub seen : Kept → Point
seen point = record { name = point.name; actuator = record { kind = point.kind; default = point.default; driver = point.driver }; min_on = point.min_on; min_off = point.min_off }

abbrev pub all_seen : List Kept → List Point
all_seen points = map seen points
