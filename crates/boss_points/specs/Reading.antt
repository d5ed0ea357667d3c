-- Source: TOML 1.0.0 (the form of the file); its keys own; the tests and their order own.
-- The catalogue that a file spells, or why it is refused: eleven tests in their order, and in each the least place.
use Rattle.std.specs.Prelude.{ℕ, ◌+◌, Bool, nat_lt, if◌then◌else◌, List, [], ◌∷◌, ◌++◌, length, map, position, codes, Option, Some, None, option_map, is_none, Result, Ok, Err}
use Rattle.std.specs.List.{list_any, filter_map}
use Rattle.std.specs.Option.{option_map_or, ok_or}
use Rattle.std.specs.Str.{bytes_eq, is_utf8}
use Rattle.toml.specs.Data.{Data, table}
use Rattle.toml.specs.Parse.{parse_document}
use Rattle.boss_model.specs.Catalogue.{Catalogue}
use Rattle.boss_model.specs.Limits.{most_drivers, most_points, longest_file}
use Rattle.boss_points.specs.declared.point.Point.{Point}
use Rattle.boss_points.specs.declared.refusal.CatalogueRefusal.{CatalogueRefusal}
use Rattle.boss_points.specs.declared.refusal.CatalogueRefusal.TheVariants.{TooLong, NotToml, Missing, TooMany, BadDriver, BadName, SameName, BadKind, BadDefault, UnknownDriver, BadTimes}
use Rattle.boss_points.specs.declared.refusal.Key.TheVariants.{Drivers, Point as Points}
use Rattle.boss_points.specs.Keys.{array_at, name_spelled, name_of, kind_of, default_of, driver_of, times_of, point_of}
use Rattle.boss_points.specs.Seen.{all_seen}

-- one test after another, until one refuses
infixl 10 ◌>>=◌
abbrev pub ◌>>=◌ : {A B : Type 0} → Result A CatalogueRefusal → (A → Result B CatalogueRefusal) → Result B CatalogueRefusal
(Ok x) >>= rest = rest x
(Err refusal) >>= rest = Err refusal

abbrev pub refuse_if : Bool → CatalogueRefusal → Result (Unit {0}) CatalogueRefusal
refuse_if test refusal = if test then Err refusal else Ok tt

-- the table that the bytes write
abbrev pub table_of : List ℕ → Option Data
table_of bytes = if is_utf8 bytes then option_map table (parse_document bytes) else None

-- no more items than this
abbrev pub at_most : ℕ → List Data → Result (Unit {0}) CatalogueRefusal
at_most limit items = refuse_if (nat_lt limit (length items)) (TooMany (length items))

-- the names, of which each is there and none stands earlier; or the refusal at the first of which this is not so
abbrev pub distinct_from : ℕ → List (List ℕ) → (ℕ → CatalogueRefusal) → List (Option (List ℕ)) → Result (List (List ℕ)) CatalogueRefusal
distinct_from place earlier refusal [] = Ok earlier
distinct_from place earlier refusal (None ∷ names) = Err (refusal place)
distinct_from place earlier refusal (Some name ∷ names) =
    if list_any (bytes_eq name) earlier then Err (refusal place) else distinct_from (place + 1) (earlier ++ name ∷ []) refusal names

abbrev pub distinct : (ℕ → CatalogueRefusal) → List (Option (List ℕ)) → Result (List (List ℕ)) CatalogueRefusal
distinct refusal names = distinct_from 0 [] refusal names

-- each item reads as something; or the refusal at the first that does not
abbrev pub all_read : {A : Type 0} → (Data → Option A) → (ℕ → CatalogueRefusal) → List Data → Result (Unit {0}) CatalogueRefusal
all_read read refusal items = option_map_or (λ place. Err (refusal place)) (position (λ d. is_none (read d)) items) (Ok tt)

-- tests 6 to 11, and the points: where these tests pass, each item reads as one
abbrev pub points_of : List (List ℕ) → List Data → Result (List Point) CatalogueRefusal
points_of drivers points = do
  _ ← all_read name_of BadName points  -- 6
  _ ← distinct SameName (map name_of points)  -- 7
  _ ← all_read kind_of BadKind points  -- 8
  _ ← all_read default_of BadDefault points  -- 9
  _ ← all_read (driver_of drivers) UnknownDriver points  -- 10
  _ ← all_read times_of BadTimes points  -- 11
  Ok (filter_map (point_of drivers) points)

-- tests 3 to 11, and the catalogue of a table
abbrev pub catalogue_in : Data → Result Catalogue CatalogueRefusal
catalogue_in file = do
  drivers ← ok_or (array_at (codes "drivers") file) (Missing Drivers)  -- 3
  points ← ok_or (array_at (codes "point") file) (Missing Points)
  _ ← at_most most_drivers drivers  -- 4
  _ ← at_most most_points points
  drivers ← distinct BadDriver (map name_spelled drivers)  -- 5
  points ← points_of drivers points
  Ok (record { drivers = drivers; points = all_seen points })

-- all eleven tests, and the catalogue that the bytes spell
unfoldable pub catalogue_of : List ℕ → Result Catalogue CatalogueRefusal
catalogue_of bytes = do
  _ ← refuse_if (nat_lt longest_file (length bytes)) (TooLong (length bytes))  -- 1
  file ← ok_or (table_of bytes) NotToml  -- 2
  catalogue_in file
