-- Catalogues and states that the rows adopt.
use Rattle.std.proofs.Common.{◌≡◌, ℕ, List, [], ◌∷◌, pos, refl}
use Rattle.std.specs.Prelude.{codes}
use Rattle.boss_model.specs.declared.point.Kind.{Kind}
use Rattle.boss_model.specs.declared.point.Kind.TheVariants.{Analog, Binary, Multi}
use Rattle.boss_model.specs.Catalogue.{Point, Catalogue, actuators}
use Rattle.boss_model.specs.Run.{Call, run}
use Rattle.boss_model.specs.Settle.{first_state}
use Rattle.boss_model.specs.State.{Persistent}
use Rattle.boss_model.proofs.Building.{building, damper, at, write, submit, a_attaches, b_attaches}

abbrev pub point : List ℕ → Kind → ℕ → Point
point name kind default = record { name = name; actuator = record { kind = kind; default = pos default; driver = 0 }; min_on = pos 0; min_off = pos 0 }

abbrev pub with_points : List Point → Catalogue
with_points points = record { drivers = codes "field" ∷ []; points = points }

-- the damper with this greatest value, the lamp with this default, the fan, and a valve
abbrev pub damper_to : ℕ → Point
damper_to most = point (codes "ahu1.damper") (Analog (pos 0) (pos most)) 20000

abbrev pub lamp_by : ℕ → Point
lamp_by default = point (codes "lamp") Binary default

abbrev pub lamp_of_two : Point
lamp_of_two = point (codes "lamp") (Multi (pos 2)) 1

abbrev pub fan_point : Point
fan_point = point (codes "fan") (Multi (pos 3)) 1

abbrev pub valve_point : Point
valve_point = point (codes "valve") (Analog (pos 0) (pos 100)) 10

-- ---- the old catalogue, and new ones

abbrev pub old : Catalogue
old = with_points (damper_to 100000 ∷ lamp_by 0 ∷ fan_point ∷ [])

-- its points are those of the timelines
plant_of_old : actuators old ≡ building
plant_of_old = refl

-- the fan is removed, a valve is added, and the lamp is on where nobody holds it
abbrev pub changed : Catalogue
changed = with_points (damper_to 100000 ∷ lamp_by 1 ∷ valve_point ∷ [])

abbrev pub turned_round : Catalogue
turned_round = with_points (fan_point ∷ lamp_by 0 ∷ damper_to 100000 ∷ [])

abbrev pub lamp_and_damper : Catalogue
lamp_and_damper = with_points (lamp_by 0 ∷ damper_to 100000 ∷ [])

abbrev pub without_damper : Catalogue
without_damper = with_points (lamp_by 0 ∷ fan_point ∷ [])

abbrev pub lamp_alone : Catalogue
lamp_alone = with_points (lamp_by 0 ∷ [])

abbrev pub narrow : Catalogue
narrow = with_points (damper_to 40000 ∷ lamp_by 0 ∷ fan_point ∷ [])

abbrev pub narrow_without_fan : Catalogue
narrow_without_fan = with_points (damper_to 40000 ∷ lamp_by 0 ∷ [])

abbrev pub lamp_of_two_states : Catalogue
lamp_of_two_states = with_points (damper_to 100000 ∷ lamp_of_two ∷ fan_point ∷ [])

-- ---- states

-- what outlasts a stop after two processes came and some calls
abbrev pub after : List Call → Persistent
after calls = (run building (first_state building) (a_attaches ∷ b_attaches ∷ calls)).persistent

-- one process has one lease, on the damper
abbrev pub one_lease : Persistent
one_lease = (run building (first_state building) (a_attaches ∷ at 1000 1 (submit (write damper 45000 8 60000 ∷ [])) ∷ [])).persistent
