-- Some of the points of a catalogue are seen as some of what it is seen as, and each has one of the drivers.
use Rattle.std.proofs.Common.{◌≡◌, ℕ, zero, suc, ◌<◌, List, [], ◌∷◌, take, drop, All, sym, ap, ◌∙◌}
use Rattle.std.proofs.lemmas.List.{take-map, drop-map}
use Rattle.std.proofs.lemmas.List.Elements.{recursion_from_All}
use Rattle.std.specs.List.{AllByRecursion}
use Rattle.boss_points.specs.declared.point.Point.{Point}
use Rattle.boss_points.specs.Kept.{IsWhole}
use Rattle.boss_points.specs.Seen.{seen, all_seen}

pub page-seen : (most from : ℕ) (points : List Point) → all_seen (take most (drop from points)) ≡ take most (drop from (all_seen points))
page-seen most from points = sym (take-map seen most (drop from points)) ∙ ap (take most) (sym (drop-map seen from points))

abbrev Known : ℕ → List Point → Type 0
Known drivers points = AllByRecursion (λ point. point.driver < drivers) points

known : (drivers : ℕ) (points : List Point) → AllByRecursion (IsWhole drivers) points → Known drivers points
known drivers [] whole = tt
known drivers (point ∷ points) whole = (whole.0.known, known drivers points whole.1)

known-take : (drivers most : ℕ) (points : List Point) → Known drivers points → Known drivers (take most points)
known-take drivers zero points all = tt
known-take drivers (suc most) [] all = tt
known-take drivers (suc most) (point ∷ points) all = (all.0, known-take drivers most points all.1)

known-drop : (drivers from : ℕ) (points : List Point) → Known drivers points → Known drivers (drop from points)
known-drop drivers zero points all = all
known-drop drivers (suc from) [] all = tt
known-drop drivers (suc from) (point ∷ points) all = known-drop drivers from points all.1

pub page-known : (drivers most from : ℕ) (points : List Point) → All (IsWhole drivers) points → AllByRecursion (λ point. point.driver < drivers) (take most (drop from points))
page-known drivers most from points whole =
    known-take drivers most (drop from points) (known-drop drivers from points (known drivers points (recursion_from_All (IsWhole drivers) points whole)))
