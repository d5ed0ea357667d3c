-- Whether some item passes a test, and how many do.
use Rattle.std.proofs.Common.{◌≡◌, List, [], ◌∷◌, length, nat_lt, Bool, true, false, ◌||◌, cond, refl, arith}
use Rattle.std.specs.List.{filter, list_any}
use Rattle.std.proofs.lemmas.Bool.Decides.{nat_tests}

pub any-counted : {X : Type 0} (test : X → Bool) (xs : List X) → list_any test xs ≡ nat_lt 0 (length (filter test xs))
any-counted test [] = refl
any-counted test (x ∷ xs) = chosen (test x) (any-counted test xs)
  where
    chosen : (b : Bool) → list_any test xs ≡ nat_lt 0 (length (filter test xs)) → (b || list_any test xs) ≡ nat_lt 0 (length (cond b (x ∷ filter test xs) (filter test xs)))
    chosen true rest = grind (arith, nat_tests)
    chosen false rest = rest
