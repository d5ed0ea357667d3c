-- Source: own; the digest: FIPS 180-4 (SHA-256).
-- The canonical text of a catalogue, and its digest: two files that spell one catalogue have one digest.
use Rattle.std.specs.Prelude.{ℕ, ℤ, pos, ◌&&◌, if◌then◌else◌, List, [], ◌∷◌, ◌++◌, codes, slice_index_or}
use Rattle.std.specs.Fmt.{signed_decimal}
use Rattle.std.specs.List.{flat_map}
use Rattle.std.specs.Ordering.{int_eq}
use Rattle.sha2.specs.Sha256.{sha256}
use Rattle.boss_model.specs.declared.point.Kind.{Kind}
use Rattle.boss_model.specs.declared.point.Kind.TheVariants.{Analog, Binary, Multi}
use Rattle.boss_model.specs.Catalogue.{Catalogue, Point}

abbrev newline : List ℕ
newline = 10 ∷ []

-- the kind, and the least and the greatest value that it takes
abbrev pub kind_text : Kind → List ℕ
kind_text (Analog min max) = codes "analog " ++ signed_decimal min ++ codes " " ++ signed_decimal max
kind_text Binary = codes "binary 0 1"
kind_text (Multi states) = codes "multi 1 " ++ signed_decimal states

-- d NAME
abbrev pub driver_line : List ℕ → List ℕ
driver_line name = codes "d " ++ name ++ newline

-- the minimum times, where a point has any
abbrev pub times_text : ℤ → ℤ → List ℕ
times_text on off =
    if int_eq on (pos 0) && int_eq off (pos 0) then [] else codes " " ++ signed_decimal on ++ codes " " ++ signed_decimal off

-- p NAME DRIVER KIND LOW HIGH DEFAULT, and behind it ON OFF where one of these is not 0
abbrev pub point_line : List (List ℕ) → Point → List ℕ
point_line drivers point =
    codes "p " ++ point.name ++ codes " " ++ slice_index_or drivers point.actuator.driver [] ++ codes " " ++ kind_text point.actuator.kind
    ++ codes " " ++ signed_decimal point.actuator.default ++ times_text point.min_on point.min_off ++ newline

-- the drivers, and then the points, a line each
abbrev pub canonical : Catalogue → List ℕ
canonical catalogue = flat_map driver_line catalogue.drivers ++ flat_map (point_line catalogue.drivers) catalogue.points

-- what a journal is kept under, and what a server tells of its catalogue: 32 bytes
abbrev pub digest_of : Catalogue → List ℕ
digest_of catalogue = sha256 (canonical catalogue)
