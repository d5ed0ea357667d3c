-- The least of two lists together.
use Rattle.std.proofs.Common.{◌≡◌, ℕ, ◌+◌, ◌<◌, List, [], ◌∷◌, ◌++◌, length, get_or, take, map, Bool, not, Option, Some, None, refl, ap, ◌∙◌, arith}
use Rattle.std.specs.List.{filter}
use Rattle.std.proofs.lemmas.Bool.Decides.{nat_tests}
use Rattle.std.proofs.lemmas.List.{map-append}
use Rattle.boss_model.specs.Order.{lesser, least}
use Rattle.law_time.proofs.Filters.{filter-append}
use Rattle.boss_adopting.specs.Least.{lesser_of, least_failing}
use Rattle.boss_adopting.proofs.Fronts.{take-item}

lesser-lesser : (x : ℕ) (one other : Option ℕ) → lesser (λ p. p) x (lesser_of one other) ≡ lesser (λ p. p) (lesser (λ p. p) x one) other
lesser-lesser x None other = refl
lesser-lesser x (Some y) None = refl
lesser-lesser x (Some y) (Some z) = grind (arith, nat_tests)

pub least-append : (xs ys : List ℕ) → least (λ p. p) (xs ++ ys) ≡ lesser_of (least (λ p. p) xs) (least (λ p. p) ys)
least-append [] ys = refl
least-append (x ∷ xs) ys =
    ap (λ rest. Some (lesser (λ p. p) x rest)) (least-append xs ys) ∙ ap Some (lesser-lesser x (least (λ p. p) xs) (least (λ p. p) ys))

-- the first items, and one more
pub failing-more : {X : Type 0} (point : X → ℕ) (test : X → Bool) (xs : List X) (i : ℕ) (x : X) → i < length xs → x ≡ get_or xs i x →
    least_failing point test (take (i + 1) xs) ≡ lesser_of (least_failing point test (take i xs)) (least_failing point test (x ∷ []))
failing-more point test xs i x within is =
    ap (least_failing point test) (take-item xs i x within is)
    ∙ ap (λ ys. least (λ p. p) (map point ys)) (filter-append (λ y. not (test y)) (take i xs) (x ∷ []))
    ∙ ap (least (λ p. p)) (map-append point (filter (λ y. not (test y)) (take i xs)) (filter (λ y. not (test y)) (x ∷ [])))
    ∙ least-append (map point (filter (λ y. not (test y)) (take i xs))) (map point (filter (λ y. not (test y)) (x ∷ [])))
