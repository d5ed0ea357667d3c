-- The first items of a list, and one more.
use Rattle.std.proofs.Common.{◌≡◌, ℕ, zero, suc, ◌+◌, ◌<◌, List, [], ◌∷◌, ◌++◌, length, get_or, take, Some, Bool, true, false, cond, ap, refl, ◌∙◌, sym, arith}
use Rattle.std.specs.Prelude.{slice_get}
use Rattle.std.specs.List.{filter}
use Rattle.std.proofs.lemmas.List.{take_more, length-append}
use Rattle.law_time.proofs.Filters.{filter-append}

pub take-get : {X : Type 0} (xs : List X) (i : ℕ) (x : X) → slice_get xs i ≡ Some x → take (i + 1) xs ≡ take i xs ++ x ∷ []
take-get [] i x is = cc
take-get (y ∷ ys) zero x is = let same : y ≡ x = cc in ap (λ z. z ∷ []) same
take-get (y ∷ ys) (suc i) x is = let next : suc i + 1 ≡ suc (i + 1) = omega arith in ap (λ n. take n (y ∷ ys)) next ∙ ap (λ zs. y ∷ zs) (take-get ys i x is)

pub take-item : {X : Type 0} (xs : List X) (i : ℕ) (x : X) → i < length xs → x ≡ get_or xs i x → take (i + 1) xs ≡ take i xs ++ x ∷ []
take-item xs i x within is = take_more xs i x within ∙ ap (λ y. take i xs ++ y ∷ []) (sym is)

one-counted : {X : Type 0} (x : X) (passes : Bool) → length (cond passes (x ∷ []) []) ≡ cond passes 1 0
one-counted x true = refl
one-counted x false = refl

-- how many pass a test
pub count-get : {X : Type 0} (test : X → Bool) (xs : List X) (i : ℕ) (x : X) → slice_get xs i ≡ Some x →
    length (filter test (take (i + 1) xs)) ≡ length (filter test (take i xs)) + cond (test x) 1 0
count-get test xs i x is =
    ap (λ ys. length (filter test ys)) (take-get xs i x is)
    ∙ ap length (filter-append test (take i xs) (x ∷ []))
    ∙ length-append (filter test (take i xs)) (filter test (x ∷ []))
    ∙ ap (λ n. length (filter test (take i xs)) + n) (one-counted x (test x))
