-- Names that are all different, and the points that have them.
use Rattle.std.proofs.Common.{◌≡◌, ℕ, ◌+◌, Bool, true, false, cond, List, [], ◌∷◌, ◌++◌, map, ℤ, position, is_none, Option, Some, None, Result, Ok, Err, refl, sym, ap, ◌∙◌, append_assoc, append-nil}
use Rattle.std.specs.List.{AllByRecursion, filter_map, cons_option, list_any}
use Rattle.std.specs.Option.{option_and_then}
use Rattle.std.specs.Str.{bytes_eq}
use Rattle.toml.specs.Data.{Data}
use Rattle.toml.specs.View.{view}
use Rattle.toml.specs.declared.value.Value.{Value}
use Rattle.boss_points.specs.Seen.{views}
use Rattle.boss_points.proofs.Views.{fails_in_views}
use Rattle.boss_model.specs.declared.point.Kind.{Kind}
use Rattle.boss_points.specs.declared.point.Point.{Point}
use Rattle.boss_points.specs.declared.refusal.CatalogueRefusal.{CatalogueRefusal}
use Rattle.boss_points.specs.Keys.{name_of, kind_of, default_of, driver_of, times_of, point_of}
use Rattle.boss_points.specs.Reading.{distinct_from, distinct}

-- the reading gives something of each
abbrev pub AllRead : {A : Type 0} → (Data → Option A) → List Data → Type 0
AllRead read ds = AllByRecursion (λ d. is_none (read d) ≡ false) ds

something : {A : Type 0} (o : Option A) → is_none o ≡ false → (x : A) × (o ≡ Some x)
something None some = absurd (cc)
something (Some x) some = (x, refl)

taken_on : {A B : Type 0} {o : Option A} {x : A} (rest : A → Option B) → o ≡ Some x → option_and_then rest o ≡ rest x
taken_on rest is = ap (option_and_then rest) is

-- a point is read where all its parts are
point_read : (drivers : List (List ℕ)) (d : Data) (name : List ℕ) (kind : Kind) (default : ℤ) (driver : ℕ) (times : ℤ × ℤ)
    → name_of d ≡ Some name → kind_of d ≡ Some kind → default_of d ≡ Some default → driver_of drivers d ≡ Some driver → times_of d ≡ Some times
    → point_of drivers d ≡ Some (record { name = name; kind = kind; default = default; driver = driver; min_on = times.0; min_off = times.1 })
point_read drivers d name kind default driver times named kinded defaulted driven timed =
    taken_on _ named ∙ taken_on _ kinded ∙ taken_on _ defaulted ∙ taken_on _ driven ∙ taken_on _ timed

-- each of the five parts of a point is read of each
pub record AllParts (drivers : List (List ℕ)) (ds : List Data) : Type 0 where
  pub names : AllRead name_of ds
  pub kinds : AllRead kind_of ds
  pub defaults : AllRead default_of ds
  pub owners : AllRead (driver_of drivers) ds
  pub times : AllRead times_of ds

first_read : (drivers : List (List ℕ)) (d : Data) (ds : List Data) → AllParts drivers (d ∷ ds) → (point : Point) × (point_of drivers d ≡ Some point) × (name_of d ≡ Some point.name)
first_read drivers d ds parts =
    let name = something (name_of d) parts.names.0 in
    let kind = something (kind_of d) parts.kinds.0 in
    let default = something (default_of d) parts.defaults.0 in
    let driver = something (driver_of drivers d) parts.owners.0 in
    let times = something (times_of d) parts.times.0 in (
      record { name = name.0; kind = kind.0; default = default.0; driver = driver.0; min_on = times.0.0; min_off = times.0.1 },
      point_read drivers d name.0 kind.0 default.0 driver.0 times.0 name.1 kind.1 default.1 driver.1 times.1,
      name.1,
    )

others : (drivers : List (List ℕ)) (d : Data) (ds : List Data) → AllParts drivers (d ∷ ds) → AllParts drivers ds
others drivers d ds parts = record { names = parts.names.1; kinds = parts.kinds.1; defaults = parts.defaults.1; owners = parts.owners.1; times = parts.times.1 }

pub points-read : (drivers : List (List ℕ)) (ds : List Data) → AllParts drivers ds → AllRead (point_of drivers) ds
points-read drivers [] parts = tt
points-read drivers (d ∷ ds) parts = (ap is_none (first_read drivers d ds parts).1, points-read drivers ds (others drivers d ds parts))

not_refused : {A : Type 0} (stands : Bool) (refusal : CatalogueRefusal) (more : Result A CatalogueRefusal) (x : A) → cond stands (Err refusal) more ≡ Ok x → more ≡ Ok x
not_refused true refusal more x ok = absurd (cc)
not_refused false refusal more x ok = ok

distinct_from-names : (drivers : List (List ℕ)) (place : ℕ) (earlier : List (List ℕ)) (refusal : ℕ → CatalogueRefusal) (ds : List Data) (names : List (List ℕ))
    → AllParts drivers ds → distinct_from place earlier refusal (map name_of ds) ≡ Ok names → names ≡ earlier ++ map (λ point. point.name) (filter_map (point_of drivers) ds)
distinct_from-names drivers place earlier refusal [] names parts ok = let all : earlier ≡ names = cc in sym all ∙ sym (append-nil earlier)
distinct_from-names drivers place earlier refusal (d ∷ ds) names parts ok =
    let (point, read, name) = first_read drivers d ds parts in
    let later : distinct_from (place + 1) (earlier ++ point.name ∷ []) refusal (map name_of ds) ≡ Ok names =
    not_refused (list_any (bytes_eq point.name) earlier) (refusal place) _ names (sym (ap (λ found. distinct_from place earlier refusal (found ∷ map name_of ds)) name) ∙ ok) in
    distinct_from-names drivers (place + 1) (earlier ++ point.name ∷ []) refusal ds names (others drivers d ds parts) later
    ∙ append_assoc earlier (point.name ∷ []) _
    ∙ sym (ap (λ found. earlier ++ map (λ point. point.name) (cons_option found (filter_map (point_of drivers) ds))) read)

-- names that are all different are the names of the points
pub distinct-names : (drivers : List (List ℕ)) (refusal : ℕ → CatalogueRefusal) (ds : List Data) (names : List (List ℕ))
    → AllParts drivers ds → distinct refusal (map name_of ds) ≡ Ok names → names ≡ map (λ point. point.name) (filter_map (point_of drivers) ds)
distinct-names drivers refusal ds names parts ok = distinct_from-names drivers 0 [] refusal ds names parts ok

-- where no place without a part is found, each part is read of each
pub parts-read : (drivers : List (List ℕ)) (tables : List Value) → position (λ table. is_none (name_of (view table))) tables ≡ None
    → position (λ table. is_none (kind_of (view table))) tables ≡ None → position (λ table. is_none (default_of (view table))) tables ≡ None
    → position (λ table. is_none (driver_of drivers (view table))) tables ≡ None → position (λ table. is_none (times_of (view table))) tables ≡ None
    → AllParts drivers (views tables)
parts-read drivers tables names kinds defaults owners times = record {
  names = fails_in_views (λ d. is_none (name_of d)) tables names;
  kinds = fails_in_views (λ d. is_none (kind_of d)) tables kinds;
  defaults = fails_in_views (λ d. is_none (default_of d)) tables defaults;
  owners = fails_in_views (λ d. is_none (driver_of drivers d)) tables owners;
  times = fails_in_views (λ d. is_none (times_of d)) tables times;
}
