-- Names of which each was taken on as a new one are all different.
use Rattle.std.proofs.Common.{◌≡◌, ℕ, ◌+◌, nat_eq, Bool, true, false, cond, List, [], ◌∷◌, ◌++◌, map, Option, Some, None, Result, Ok, Err, refl, ap, arith, subst}
use Rattle.std.specs.List.{list_any}
use Rattle.std.specs.Cmp.Lexicographic.{pointwise}
use Rattle.std.specs.Str.{bytes_eq}
use Rattle.boss_model.specs.Sound.{DistinctNames}
use Rattle.boss_points.specs.declared.point.Point.{Point}
use Rattle.boss_points.specs.declared.refusal.CatalogueRefusal.{CatalogueRefusal}
use Rattle.boss_points.specs.Reading.{distinct_from, distinct}
use Rattle.boss_points.specs.Seen.{all_seen}

-- one more name, which is none of the others
DistinctNames-snoc : (names : List (List ℕ)) (name : List ℕ) → DistinctNames names → list_any (bytes_eq name) names ≡ false → DistinctNames (names ++ name ∷ [])
DistinctNames-snoc [] name apart new = (refl, tt)
DistinctNames-snoc (x ∷ xs) name apart new = (others xs apart.0, DistinctNames-snoc xs name apart.1 (grind (arith)))
  where
    others : (ys : List (List ℕ)) → list_any (λ other. pointwise nat_eq other x) ys ≡ false → list_any (λ other. pointwise nat_eq other x) (ys ++ name ∷ []) ≡ false
    others [] none = let here : pointwise nat_eq name x ≡ false = grind (arith) in grind (arith, here)
    others (y ∷ ys) none = grind (arith, others ys)

-- what is not refused did not stand, and what follows is not refused
not-refused : {A : Type 0} (stands : Bool) (refusal : CatalogueRefusal) (more : Result A CatalogueRefusal) (x : A) → cond stands (Err refusal) more ≡ Ok x →
    (stands ≡ false) × (more ≡ Ok x)
not-refused true refusal more x ok = absurd (cc)
not-refused false refusal more x ok = (refl, ok)

distinct_from-apart : (place : ℕ) (earlier : List (List ℕ)) (refusal : ℕ → CatalogueRefusal) (found : List (Option (List ℕ))) (names : List (List ℕ)) →
    DistinctNames earlier → distinct_from place earlier refusal found ≡ Ok names → DistinctNames names
distinct_from-apart place earlier refusal [] names apart ok = let all : earlier ≡ names = cc in subst DistinctNames all apart
distinct_from-apart place earlier refusal (None ∷ found) names apart ok = cc
distinct_from-apart place earlier refusal (Some name ∷ found) names apart ok =
    let (new, more) = not-refused (list_any (bytes_eq name) earlier) (refusal place) (distinct_from (place + 1) (earlier ++ name ∷ []) refusal found) names ok in
    distinct_from-apart (place + 1) (earlier ++ name ∷ []) refusal found names (DistinctNames-snoc earlier name apart new) more

pub distinct-apart : (refusal : ℕ → CatalogueRefusal) (found : List (Option (List ℕ))) (names : List (List ℕ)) → distinct refusal found ≡ Ok names → DistinctNames names
distinct-apart refusal found names ok = distinct_from-apart 0 [] refusal found names tt ok

-- points are seen with their names
names-seen : (points : List Point) → map (λ point. point.name) points ≡ map (λ point. point.name) (all_seen points)
names-seen [] = refl
names-seen (point ∷ points) = ap (λ names. point.name ∷ names) (names-seen points)

pub apart-seen : (points : List Point) → DistinctNames (map (λ point. point.name) points) → DistinctNames (map (λ point. point.name) (all_seen points))
apart-seen points apart = subst DistinctNames (names-seen points) apart
