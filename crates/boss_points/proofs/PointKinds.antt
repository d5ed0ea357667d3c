-- The kinds that are read have their limits within bounds, so the points of a catalogue are a plant.
use Rattle.std.proofs.Common.{◌≡◌, ℕ, ◌≤◌, ℤ, pos, negsuc, Bool, true, false, ◌&&◌, cond, codes, List, [], ◌∷◌, length, map, All, Option, Some, None, arith, refl, ap, suc}
use Rattle.std.specs.Prelude.{int_le}
use Rattle.std.specs.Str.{bytes_eq}
use Rattle.std.proofs.lemmas.Bool.Decides.{nat_tests}
use Rattle.std.proofs.lemmas.List.Elements.{recursion_from_All}
use Rattle.std.proofs.lemmas.Option.{option_and_then_some, cond_some, same_Some}
use Rattle.std.specs.List.{AllByRecursion}
use Rattle.toml.specs.Data.{Data}
use Rattle.boss_model.specs.declared.point.Kind.{Kind}
use Rattle.boss_model.specs.declared.point.Kind.TheVariants.{Analog, Binary, Multi}
use Rattle.boss_model.specs.Limits.{most_points}
use Rattle.boss_model.specs.Plants.{is_limit, IsKind, IsPlant}
use Rattle.boss_points.specs.declared.point.Point.{Point}
use Rattle.boss_points.specs.Kept.{IsWhole}
use Rattle.boss_points.specs.Keys.{◌>>=◌, text_at, whole_at, least_limit, greatest_limit, analog, analog_of, multi_of, kind_of}
use Rattle.boss_points.specs.Seen.{all_seen}

least-limit : (min max : ℤ) → (int_le least_limit min && int_le min max && int_le max greatest_limit) ≡ true → is_limit min ≡ true
least-limit (pos a) (pos b) tested = grind (arith, nat_tests)
least-limit (pos a) (negsuc b) tested = grind (arith, nat_tests)
least-limit (negsuc a) max tested = grind (arith, nat_tests)

greatest-limit : (min max : ℤ) → (int_le least_limit min && int_le min max && int_le max greatest_limit) ≡ true → is_limit max ≡ true
greatest-limit min (pos b) tested = grind (arith, nat_tests)
greatest-limit (pos a) (negsuc b) tested = grind (arith, nat_tests)
greatest-limit (negsuc a) (negsuc b) tested = grind (arith, nat_tests)

analog-is_kind : (d : Data) (kind : Kind) → analog_of d ≡ Some kind → IsKind kind
analog-is_kind d kind is =
    option_and_then_some (λ min. whole_at (codes "max") d >>= analog min) (whole_at (codes "min") d) kind is (λ min _ rest.
    option_and_then_some (analog min) (whole_at (codes "max") d) kind rest (λ max _ made.
    let tested = cond_some (int_le least_limit min && int_le min max && int_le max greatest_limit) (Analog min max) kind made in
    rw (← tested.1) (least-limit min max tested.0, greatest-limit min max tested.0)))

multi-is_kind : (d : Data) (kind : Kind) → multi_of d ≡ Some kind → IsKind kind
multi-is_kind d kind is =
    option_and_then_some _ (whole_at (codes "states") d) kind is (λ states _ made.
    let tested = cond_some (int_le (pos 2) states && int_le states (pos 255)) (Multi states) kind made in
    rw (← tested.1) tested.0)

one_of : (a b m : Bool) (analogous many : Option Kind) (kind : Kind) → (analogous ≡ Some kind → IsKind kind) → (many ≡ Some kind → IsKind kind) →
    cond a analogous (cond b (Some Binary) (cond m many None)) ≡ Some kind → IsKind kind
one_of true b m analogous many kind first second is = first is
one_of false true m analogous many kind first second is = rw (← same_Some Binary kind is) tt
one_of false false true analogous many kind first second is = second is
one_of false false false analogous many kind first second is = cc

pub kind_of-is_kind : (d : Data) (kind : Kind) → kind_of d ≡ Some kind → IsKind kind
kind_of-is_kind d kind is =
    option_and_then_some _ (text_at (codes "kind") d) kind is (λ name _ named.
    one_of (bytes_eq name (codes "analog")) (bytes_eq name (codes "binary")) (bytes_eq name (codes "multi")) (analog_of d) (multi_of d) kind
    (analog-is_kind d kind) (multi-is_kind d kind) named)

kinds-whole : (drivers : ℕ) (points : List Point) → AllByRecursion (IsWhole drivers) points →
    AllByRecursion (λ actuator. IsKind actuator.kind) (map (λ point. point.actuator) (all_seen points))
kinds-whole drivers [] whole = tt
kinds-whole drivers (point ∷ points) whole = (whole.0.kind, kinds-whole drivers points whole.1)

counted : (points : List Point) → length (map (λ point. point.actuator) (all_seen points)) ≡ length points
counted [] = refl
counted (point ∷ points) = ap suc (counted points)

pub whole-plant : (drivers : ℕ) (points : List Point) → length points ≤ most_points → All (IsWhole drivers) points →
    IsPlant (map (λ point. point.actuator) (all_seen points))
whole-plant drivers points few whole = record {
  few = let same : length (map (λ point. point.actuator) (all_seen points)) ≡ length points = counted points in omega arith;
  kinds = kinds-whole drivers points (recursion_from_All (IsWhole drivers) points whole);
}
