-- Source: TOML 1.0.0 (the form of the file); its keys own; the tests and their order own.
-- The plan that a file spells, or why it is refused: six tests in their order, and in each the least place or point.
use Rattle.std.specs.Prelude.{◌≡◌, ℕ, ◌+◌, ◌<◌, nat_lt, Bool, ◌&&◌, not, if◌then◌else◌, List, [], ◌∷◌, ◌++◌, length, map, filter, codes, Option, Some, None, Result, Ok, Err}
use Rattle.std.specs.Option.{option_map_or, ok_or}
use Rattle.toml.specs.Data.{Data}
use Rattle.boss_model.specs.Catalogue.{Catalogue, Point}
use Rattle.boss_model.specs.Limits.{longest_file}
use Rattle.boss_model.specs.declared.places.Place.{Place}
use Rattle.boss_points.specs.Keys.{array_at}
use Rattle.boss_points.specs.Reading.{table_of}
use Rattle.boss_plans.specs.declared.hosts.Host.{Host}
use Rattle.boss_plans.specs.declared.plan.Part.{Part}
use Rattle.boss_plans.specs.declared.refusal.PlanRefusal.{PlanRefusal}
use Rattle.boss_plans.specs.declared.refusal.PlanRefusal.TheVariants.{TooLong, NotToml, Missing, BadDriver, BadPlace, NoPlace, NoMemory}
use Rattle.boss_plans.specs.declared.refusal.PlanKey.TheVariants.{Driver, Place as Places}
use Rattle.boss_plans.specs.Places.{host_in, place_in, is_planned, is_placed, is_of_driver}

-- one test after another, until one refuses
infixl 10 ◌>>=◌
abbrev pub ◌>>=◌ : {A B : Type 0} → Result A PlanRefusal → (A → Result B PlanRefusal) → Result B PlanRefusal
(Ok x) >>= rest = rest x
(Err refusal) >>= rest = Err refusal

abbrev pub refuse_if : Bool → PlanRefusal → Result (Unit {0}) PlanRefusal
refuse_if test refusal = if test then Err refusal else Ok tt

-- the drivers of the tables, after the earlier ones; or the first that is refused
abbrev pub hosts_from : Catalogue → ℕ → List Host → List Data → Result (List Host) PlanRefusal
hosts_from catalogue place earlier [] = Ok earlier
hosts_from catalogue place earlier (d ∷ ds) =
    option_map_or (λ host. hosts_from catalogue (place + 1) (earlier ++ host ∷ []) ds) (host_in catalogue earlier d) (Err (BadDriver place))

-- the places of the tables, after the earlier ones; or the first that is refused
abbrev pub places_from : Catalogue → List Host → ℕ → List Place → List Data → Result (List Place) PlanRefusal
places_from catalogue hosts place earlier [] = Ok earlier
places_from catalogue hosts place earlier (d ∷ ds) =
    option_map_or (λ found. places_from catalogue hosts (place + 1) (earlier ++ found ∷ []) ds) (place_in catalogue hosts earlier d) (Err (BadPlace place))

-- a point of a planned driver has no place
abbrev pub lacks_place : List Host → List Place → ℕ → Point → Bool
lacks_place hosts places id point = is_planned hosts point.actuator.driver && not (is_placed places id)

-- the least such point, by its place in the catalogue
abbrev pub first_lacking : List Host → List Place → ℕ → List Point → Option ℕ
first_lacking hosts places id [] = None
first_lacking hosts places id (point ∷ points) = if lacks_place hosts places id point then Some id else first_lacking hosts places (id + 1) points

abbrev pub all_placed : Option ℕ → Result (Unit {0}) PlanRefusal
all_placed lacking = option_map_or (λ point. Err (NoPlace point)) lacking (Ok tt)

-- what a driver's device is assigned: its host and what it speaks, how long it is waited for, how often a request is sent, and the places of
-- its points
abbrev pub part_of : Catalogue → List Place → Host → Part
part_of catalogue places host = record {
  driver = host.driver;
  plan = record { host = host.host; speaks = host.terms.speaks; wait = host.wait; tries = host.tries; places = filter (is_of_driver catalogue host.driver) places };
}

-- tests 3 to 6, and the plan of a table
abbrev pub plan_in : Catalogue → Data → Result (List Part) PlanRefusal
plan_in catalogue file = do
  drivers ← ok_or (array_at (codes "driver") file) (Missing Driver)  -- 3
  tables ← ok_or (array_at (codes "place") file) (Missing Places)
  hosts ← hosts_from catalogue 0 [] drivers  -- 4
  places ← places_from catalogue hosts 0 [] tables  -- 5
  _ ← all_placed (first_lacking hosts places 0 catalogue.points)  -- 6
  Ok (map (part_of catalogue places) hosts)

-- all six tests, and the plan that the bytes spell
unfoldable pub plan_of : Catalogue → List ℕ → Result (List Part) PlanRefusal
plan_of catalogue bytes = do
  _ ← refuse_if (nat_lt longest_file (length bytes)) (TooLong (length bytes))  -- 1
  file ← ok_or (table_of bytes) NotToml  -- 2
  plan_in catalogue file

-- the refusal is the one that reading gives. Out of memory says nothing.
abbrev pub Refused : {A : Type 0} → PlanRefusal → Result A PlanRefusal → Type 0
Refused NoMemory read = Unit {0}
Refused refusal read = read ≡ Err refusal

-- a point that the refusal names is one of the catalogue
abbrev pub IsKnown : Catalogue → PlanRefusal → Type 0
IsKnown catalogue (NoPlace point) = point < length catalogue.points
IsKnown catalogue refusal = Unit {0}

-- what was answered, seen by view, is what reading gives
abbrev pub Gives : {A B : Type 0} → (A → B) → Result A PlanRefusal → Result B PlanRefusal → Type 0
Gives view (Ok x) read = read ≡ Ok (view x)
Gives view (Err refusal) read = Refused refusal read
