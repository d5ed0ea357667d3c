-- Source: own.
-- The gates of a server: its rules, where it has some.
use Rattle.std.specs.Prelude.{List, [], ◌∷◌, Option, Some, None}
use Rattle.boss_model.specs.Catalogue.{Catalogue}
use Rattle.boss_access.specs.declared.rule.Rule.{Rule}
use Rattle.boss_gate.specs.Gates.{gate_of}
use Rattle.boss_shared.specs.Gates.{Gate}

abbrev pub gates_of : Catalogue → Option (List Rule) → List Gate
gates_of catalogue None = []
gates_of catalogue (Some rules) = gate_of rules catalogue.points ∷ []
