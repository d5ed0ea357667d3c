-- Source: own.
-- The gate of access rules, for the points of a catalogue.
use Rattle.std.specs.Prelude.{List}
use Rattle.boss_access.specs.declared.rule.Rule.{Rule}
use Rattle.boss_access.specs.Decisions.{admits, first_denied}
use Rattle.boss_model.specs.Catalogue.{Point}
use Rattle.boss_shared.specs.Gates.{Gate}

-- a name is admitted where some rule is for it, and each write is decided by the first rule that is for it
abbrev pub gate_of : List Rule → List Point → Gate
gate_of rules points = (admits rules, first_denied rules points)
