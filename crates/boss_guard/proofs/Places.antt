-- The points before a place, and one more.
use Rattle.std.proofs.Common.{◌≡◌, ℕ, zero, suc, ◌+◌, List, [], ◌∷◌, ◌++◌, Some, take, slice_get, refl, ap, ◌∙◌, add-one, Bool, true, false, ◌||◌}
use Rattle.std.proofs.lemmas.Bool.{or_from, or_right}
use Rattle.std.specs.List.{list_any}
use Rattle.std.proofs.lemmas.List.Folds.{list_any-append}

suc_more : {X : Type 0} (xs : List X) (place : ℕ) (x : X) → slice_get xs place ≡ Some x → take (suc place) xs ≡ take place xs ++ x ∷ []
suc_more [] place x is = absurd cc
suc_more (y ∷ ys) zero x is = let same : y ≡ x = cc in ap (λ z. z ∷ []) same
suc_more (y ∷ ys) (suc place) x is = ap (λ zs. y ∷ zs) (suc_more ys place x is)

pub take_more : {X : Type 0} (xs : List X) (place : ℕ) (x : X) → slice_get xs place ≡ Some x → take (place + 1) xs ≡ take place xs ++ x ∷ []
take_more xs place x is = rw add-one (suc_more xs place x is)

pub any_here : {X : Type 0} (test : X → Bool) (xs : List X) (place : ℕ) (x : X) → slice_get xs place ≡ Some x → test x ≡ true → list_any test xs ≡ true
any_here test [] place x is passes = absurd cc
any_here test (y ∷ ys) zero x is passes = let same : y ≡ x = cc in ap (λ b. b || list_any test ys) (ap test same ∙ passes)
any_here test (y ∷ ys) (suc place) x is passes = or_right (test y) (list_any test ys) (any_here test ys place x is passes)

pub none_more : {X : Type 0} (test : X → Bool) (xs : List X) (place : ℕ) (x : X) → slice_get xs place ≡ Some x → test x ≡ false →
    list_any test (take place xs) ≡ false → list_any test (take (place + 1) xs) ≡ false
none_more test xs place x is fails none = ap (list_any test) (take_more xs place x is) ∙ list_any-append test (take place xs) (x ∷ [])
    ∙ or_from (list_any test (take place xs)) (list_any test (x ∷ [])) none (or_from (test x) false fails refl)
