-- Texts that a hasher takes one after another.
use Rattle.std.proofs.Common.{◌≡◌, ℕ, ◌+◌, ◌<◌, List, [], ◌∷◌, ◌++◌, length, take, get_or, subst, sym, ap, ◌∙◌, append_assoc, append-nil}
use Rattle.std.proofs.lemmas.Grind.{flat_map-append}
use Rattle.std.proofs.lemmas.List.{take_more, map-append}
use Rattle.std.specs.List.{flat_map}
use Rattle.sha2.specs.Hashers.{Holds256}
use Rattle.sha2.specs.declared.Sha256.{Sha256}
use Rattle.boss_model.specs.Catalogue.{Point}
use Rattle.boss_points.specs.declared.point.Point.{Point as Kept}
use Rattle.boss_points.specs.Fed.{Takes}
use Rattle.boss_points.specs.Seen.{seen, all_seen}

pub takes_both : (before between after : Sha256) (first second : List ℕ) → Takes before between first → Takes between after second → Takes before after (first ++ second)
takes_both before between after first second one two taken held =
    let P : List ℕ → Type 0 = λ text. Holds256 after text in
    subst P (append_assoc taken first second) (two (taken ++ first) (one taken held))

pub takes_nothing : (hasher : Sha256) → Takes hasher hasher []
takes_nothing hasher taken held = rw (append-nil taken) held

-- the texts of the first items, and of one more
pub flat_map-take_more : {X : Type 0} (f : X → List ℕ) (xs : List X) (i : ℕ) (x : X) → i < length xs → x ≡ get_or xs i x → flat_map f (take (i + 1) xs) ≡ flat_map f (take i xs) ++ f x
flat_map-take_more f xs i x within is =
    ap (flat_map f) (take_more xs i x within) ∙ flat_map-append f (take i xs) (get_or xs i x ∷ []) ∙ ap (λ text. flat_map f (take i xs) ++ text) (append-nil (f (get_or xs i x)) ∙ ap f (sym is))

pub all_seen-take_more : (f : Point → List ℕ) (points : List Kept) (i : ℕ) (point : Kept) → i < length points → point ≡ get_or points i point
    → flat_map f (all_seen (take (i + 1) points)) ≡ flat_map f (all_seen (take i points)) ++ f (seen point)
all_seen-take_more f points i point within is =
    ap (λ front. flat_map f (all_seen front)) (take_more points i point within) ∙ ap (flat_map f) (map-append seen (take i points) (get_or points i point ∷ []))
    ∙ flat_map-append f (all_seen (take i points)) (seen (get_or points i point) ∷ [])
    ∙ ap (λ text. flat_map f (all_seen (take i points)) ++ text) (append-nil (f (seen (get_or points i point))) ∙ ap (λ last. f (seen last)) (sym is))
