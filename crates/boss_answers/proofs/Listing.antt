-- Items with commas between them are the first, and the others with a comma before each.
use Rattle.std.proofs.Common.{◌≡◌, ℕ, List, [], ◌∷◌, ◌++◌, map, sym, ap, append-nil}
use Rattle.std.specs.List.{flat_map}
use Rattle.def_wire.specs.Texts.{listed}

pub listed-cons : {X : Type 0} (text : X → List ℕ) (x : X) (xs : List X) → listed (map text (x ∷ xs)) ≡ text x ++ flat_map (λ y. 44 ∷ text y) xs
listed-cons text x [] = sym (append-nil (text x))
listed-cons text x (y ∷ ys) = ap (λ rest. text x ++ 44 ∷ rest) (listed-cons text y ys)

-- the same of what items are seen as
pub listed-seen : {A X : Type 0} (see : A → X) (text : X → List ℕ) (x : A) (xs : List A)
    → listed (map text (map see (x ∷ xs))) ≡ text (see x) ++ flat_map (λ y. 44 ∷ text (see y)) xs
listed-seen see text x [] = sym (append-nil (text (see x)))
listed-seen see text x (y ∷ ys) = ap (λ rest. text (see x) ++ 44 ∷ rest) (listed-seen see text y ys)
