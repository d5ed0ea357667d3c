-- Source: own.
-- Which disk is in force, as it is told.
use Rattle.std.specs.Prelude.{◌≡◌, true, false, Option, Some, None}
use Rattle.def_log.specs.declared.kind.DiskKind.{DiskKind}
use Rattle.def_log.specs.declared.kind.DiskKind.TheVariants as kind
use Rattle.def_log.specs.InForce as which
use Rattle.def_log.specs.Kinds.{in_force}
use Rattle.boss_disk_pair.specs.declared.forces.Force.{Force}
use Rattle.boss_disk_pair.specs.declared.forces.Force.TheVariants.{Neither, Plain, State}

abbrev pub TellsForce : DiskKind → DiskKind → Option Force → Type 0
TellsForce first second None = in_force first second ≡ which.Foreign
TellsForce first second (Some Neither) = in_force first second ≡ which.Neither
TellsForce first second (Some Plain) = (in_force first second ≡ which.First) × (first ≡ kind.Plain)
TellsForce first second (Some (State false generation)) = (in_force first second ≡ which.First) × (first ≡ kind.State generation)
TellsForce first second (Some (State true generation)) = (in_force first second ≡ which.Second) × (second ≡ kind.State generation)
