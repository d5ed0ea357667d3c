-- What holds of each point that is read, and how many there are.
use Rattle.std.proofs.Common.{◌≡◌, ℕ, ◌<◌, ℤ, pos, true, List, [], ◌∷◌, length, Option, Some, None, All, position, codes, refl, sym, ◌∙◌}
use Rattle.std.proofs.lemmas.List.Elements.{All-from_recursion}
use Rattle.std.proofs.lemmas.List.Quantifiers.{position-Some}
use Rattle.std.proofs.lemmas.Option.{option_and_then_some, cond_some, same_Some}
use Rattle.std.specs.List.{AllByRecursion, filter_map, cons_option}
use Rattle.std.specs.Option.{option_map_or}
use Rattle.std.specs.Str.{bytes_eq}
use Rattle.toml.specs.Data.{Data, get, as_integer}
use Rattle.boss_model.specs.declared.point.Kind.{Kind}
use Rattle.boss_model.specs.declared.point.Kind.TheVariants.{Analog, Binary, Multi}
use Rattle.boss_model.specs.Catalogue.{fits}
use Rattle.boss_points.specs.declared.point.Point.{Point}
use Rattle.boss_points.specs.Keys.{if_true, is_minimum, minimum, time_at, times_of, text_at, kind_of, default_of, driver_of, point_of}
use Rattle.boss_points.specs.Kept.{AreTimes, IsWhole}
use Rattle.boss_points.proofs.PointKinds.{kind_of-is_kind}

default_of-fits : (d : Data) (kind : Kind) (default : ℤ) → kind_of d ≡ Some kind → default_of d ≡ Some default → fits kind default ≡ true
default_of-fits d kind default kinded defaulted =
    option_and_then_some _ (kind_of d) default defaulted (λ other is rest.
    option_and_then_some _ _ default rest (λ whole _ tested.
    let fitting = cond_some (fits other whole) whole default tested in
    let same : other ≡ kind = let found : Some other ≡ Some kind = sym is ∙ kinded in cc in
    rw (← same, ← fitting.1) fitting.0))

driver_of-known : (drivers : List (List ℕ)) (d : Data) (driver : ℕ) → driver_of drivers d ≡ Some driver → driver < length drivers
driver_of-known drivers d driver is =
    option_and_then_some (λ name. position (λ other. bytes_eq other name) drivers) (text_at (codes "driver") d) driver is
    (λ name _ found. (position-Some (λ other. bytes_eq other name) drivers driver [] found).0)

-- a minimum time of a point of this kind
abbrev IsTime : Kind → ℤ → Type 0
IsTime kind time = (is_minimum time ≡ true) × (¬ (kind ≡ Binary) → time ≡ pos 0)

minimum-is_time : (kind : Kind) (found : Data) (time : ℤ) → minimum kind found ≡ Some time → IsTime kind time
minimum-is_time Binary found time is =
    option_and_then_some (if_true is_minimum) (as_integer found) time is (λ whole _ tested.
    let within = cond_some (is_minimum whole) whole time tested in
    (rw (← within.1) within.0, λ other. absurd (other refl)))
minimum-is_time (Analog min max) found time is = cc
minimum-is_time (Multi states) found time is = cc

time_at-is_time : (kind : Kind) (key : List ℕ) (d : Data) (time : ℤ) → time_at kind key d ≡ Some time → IsTime kind time
time_at-is_time kind key d time is = by (get key d) is
  where
    by : (found : Option Data) → option_map_or (minimum kind) found (Some (pos 0)) ≡ Some time → IsTime kind time
    by None missing = rw (← same_Some (pos 0) time missing) (refl, λ _. refl)
    by (Some found) there = minimum-is_time kind found time there

times_of-are : (d : Data) (kind : Kind) (times : ℤ × ℤ) → kind_of d ≡ Some kind → times_of d ≡ Some times → AreTimes kind times.0 times.1
times_of-are d kind times kinded timed =
    option_and_then_some _ (kind_of d) times timed (λ other is rest.
    option_and_then_some _ (time_at other (codes "min_on") d) times rest (λ on on_is more.
    option_and_then_some _ (time_at other (codes "min_off") d) times more (λ off off_is made.
    let on_time = time_at-is_time other (codes "min_on") d on on_is in
    let off_time = time_at-is_time other (codes "min_off") d off off_is in
    let are : AreTimes other on off = record { within_on = on_time.0; within_off = off_time.0; only_binary = λ none. (on_time.1 none, off_time.1 none) } in
    let same : other ≡ kind = let found : Some other ≡ Some kind = sym is ∙ kinded in cc in
    rw (← same, ← same_Some (on, off) times made) are)))

point_of-whole : (drivers : List (List ℕ)) (d : Data) (point : Point) → point_of drivers d ≡ Some point → IsWhole (length drivers) point
point_of-whole drivers d point is =
    option_and_then_some _ _ point is (λ name _ named.
    option_and_then_some _ _ point named (λ kind kinded rest.
    option_and_then_some _ _ point rest (λ default defaulted more.
    option_and_then_some _ _ point more (λ driver driven last.
    option_and_then_some _ (times_of d) point last (λ times timed made.
    let read : Point = record { name = name; kind = kind; default = default; driver = driver; min_on = times.0; min_off = times.1 } in
    let whole : IsWhole (length drivers) read = record {
      kind = kind_of-is_kind d kind kinded;
      fitting = default_of-fits d kind default kinded defaulted;
      known = driver_of-known drivers d driver driven;
      times = times_of-are d kind times kinded timed;
    } in
    rw (← same_Some read point made) whole)))))

whole_by_recursion : (drivers : List (List ℕ)) (ds : List Data) → AllByRecursion (IsWhole (length drivers)) (filter_map (point_of drivers) ds)
whole_by_recursion drivers [] = tt
whole_by_recursion drivers (d ∷ ds) = by (point_of drivers d) refl (whole_by_recursion drivers ds)
  where
    by : (found : Option Point) → point_of drivers d ≡ found → AllByRecursion (IsWhole (length drivers)) (filter_map (point_of drivers) ds)
        → AllByRecursion (IsWhole (length drivers)) (cons_option found (filter_map (point_of drivers) ds))
    by None is more = more
    by (Some point) is more = (point_of-whole drivers d point is, more)

pub all_whole : (drivers : List (List ℕ)) (ds : List Data) → All (IsWhole (length drivers)) (filter_map (point_of drivers) ds)
all_whole drivers ds = All-from_recursion (IsWhole (length drivers)) (filter_map (point_of drivers) ds) (whole_by_recursion drivers ds)
