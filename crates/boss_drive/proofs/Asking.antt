-- How a driver that asks for its next want is answered.
use Rattle.std.proofs.Common.{◌≡◌, ℕ, ℤ, pos, ◌<◌, List, [], ◌∷◌, length, Option, Some, None, refl, sym, ap, subst}
use Rattle.std.proofs.Common.{map, suc, ◌==◌}
use Rattle.std.specs.List.{find}
use Rattle.boss_model.specs.declared.answer.Answer.{Answer}
use Rattle.boss_model.specs.declared.answer.Answer.TheVariants as answer
use Rattle.boss_model.specs.declared.command.Command.TheVariants as command
use Rattle.boss_model.specs.declared.state.Actuator.{Actuator}
use Rattle.boss_model.specs.Catalogue.{actuators, driver_of, Catalogue, Point}
use Rattle.boss_model.specs.Devices.{hand_out}
use Rattle.boss_model.specs.Machine.{step, pass_time}
use Rattle.boss_model.specs.State.{State}
use Rattle.boss_model.specs.Time.{moment_of}

abbrev pub IsNext : Answer → Type 0
IsNext (answer.Want point version value) = Unit {0}
IsNext answer.Nothing = Unit {0}
IsNext other = ⊥

handed : (found : Option ℕ) (s : State) → IsNext (hand_out found s).answer
handed None s = tt
handed (Some point) s = tt

stepped_next : (plant : List Actuator) (driver moment : ℕ) (s : State) → IsNext (step plant 0 (command.Next driver) moment s).answer
unfolding step
stepped_next plant driver moment s = let passed = pass_time plant (moment_of s.persistent moment) s in handed (find (λ point. driver_of plant point == driver) passed.wants) passed

-- it is given a want or none
pub next_answer : (plant : List Actuator) (driver moment : ℕ) (given : Answer) → ((s : State) × (given ≡ (step plant 0 (command.Next driver) moment s).answer)) → IsNext given
next_answer plant driver moment given made = subst IsNext (sym made.1) (stepped_next plant driver moment made.0)

-- a catalogue of the plant's points, without names
abbrev nameless : List Actuator → List Point
nameless [] = []
nameless (actuator ∷ plant) = record { name = []; actuator = actuator; min_on = pos 0; min_off = pos 0 } ∷ nameless plant

nameless_actuators : (plant : List Actuator) → map (λ point. point.actuator) (nameless plant) ≡ plant
nameless_actuators [] = refl
nameless_actuators (actuator ∷ plant) = ap (λ rest. actuator ∷ rest) (nameless_actuators plant)

nameless_length : (plant : List Actuator) → length (nameless plant) ≡ length plant
nameless_length [] = refl
nameless_length (actuator ∷ plant) = ap suc (nameless_length plant)

-- what holds of each catalogue of the plant holds of its number of points
pub known_point : (plant : List Actuator) (point : ℕ) → ((catalogue : Catalogue) → actuators catalogue ≡ plant → point < length catalogue.points) → point < length plant
known_point plant point told =
    subst (λ n. point < n) (nameless_length plant) (told (record { drivers = []; points = nameless plant }) (nameless_actuators plant))

-- it is nothing else
pub only_next : (given : Answer) → IsNext given → ((point version : ℕ) (value : ℤ) → given ≡ answer.Want point version value → ⊥) → (given ≡ answer.Nothing → ⊥) → ⊥
only_next (answer.Attached name next) is no_want some = is
only_next (answer.Accepted txn until) is no_want some = is
only_next (answer.Renewed txn until) is no_want some = is
only_next (answer.Cancelled txn at) is no_want some = is
only_next (answer.Gone ended) is no_want some = is
only_next (answer.Ticked now) is no_want some = is
only_next (answer.Want point version value) is no_want some = no_want point version value refl
only_next answer.Nothing is no_want some = some refl
only_next (answer.Noted current) is no_want some = is
only_next (answer.Reading point value basis mark differed took) is no_want some = is
only_next (answer.Array point slots) is no_want some = is
only_next (answer.Status txn owner stage live pending) is no_want some = is
only_next (answer.Notices first next list) is no_want some = is
only_next (answer.Points from most) is no_want some = is
only_next answer.Version is no_want some = is
only_next (answer.Refused why) is no_want some = is
