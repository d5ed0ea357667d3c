-- Source: own.
use Rattle.std.specs.Prelude.{ℕ, Bool, true, false, ◌&&◌, ◌||◌, ◌==◌, nat_lt, if◌then◌else◌, List, [], ◌∷◌, Option, None, Some}

-- numbers compared one after another, as words in a dictionary: x stands before y, or they are alike
abbrev pub comes_before : List ℕ → List ℕ → Bool
comes_before [] ys = true
comes_before (x ∷ xs) [] = false
comes_before (x ∷ xs) (y ∷ ys) = nat_lt x y || ((x == y) && comes_before xs ys)

-- x put before the first that it comes before
abbrev pub put : {X : Type 0} → (X → List ℕ) → X → List X → List X
put rank x [] = x ∷ []
put rank x (y ∷ ys) = if comes_before (rank x) (rank y) then x ∷ y ∷ ys else y ∷ put rank x ys

-- the same items in order of rank
abbrev pub in_order : {X : Type 0} → (X → List ℕ) → List X → List X
in_order rank [] = []
in_order rank (x ∷ xs) = put rank x (in_order rank xs)

-- of an item and one that may come later the first, but the later where its key is less
abbrev pub lesser : {X : Type 0} → (X → ℕ) → X → Option X → X
lesser key x None = x
lesser key x (Some y) = if nat_lt (key y) (key x) then y else x

-- the same where the first of the two may be missing
abbrev pub kept : {X : Type 0} → (X → ℕ) → Option X → X → X
kept key None x = x
kept key (Some first) x = lesser key first (Some x)

-- an item of the least key, and of several the first
abbrev pub least : {X : Type 0} → (X → ℕ) → List X → Option X
least key [] = None
least key (x ∷ xs) = Some (lesser key x (least key xs))
