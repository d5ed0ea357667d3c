-- Source: own over ASHRAE 135, clause 19.2 (sixteen entries a point).
use Rattle.std.specs.Prelude.{ℕ, zero, suc, ◌+◌, ◌++◌, Bool, if◌then◌else◌, List, [], Option, Some, None, slice_index_or}
use Rattle.std.specs.Option.{option_to_list}

-- what h gives at k, k + 1 and so on, so many of them, one behind another
unfoldable pub gather : {Y : Type 0} → (ℕ → List Y) → ℕ → ℕ → List Y
gather h k zero = []
gather h k (suc n) = h k ++ gather h (k + 1) n

-- what stands in the sixteen slots of a point
abbrev pub row : {X : Type 0} → (ℕ → ℕ → Option X) → ℕ → List X
row f point = gather (λ priority. option_to_list (f point priority)) 1 16

-- what stands in the slots of so many points, in the order of points and then of levels
abbrev pub all : {X : Type 0} → (ℕ → ℕ → Option X) → ℕ → List X
all f points = gather (row f) 0 points

-- the item, if it passes the test
abbrev pub keep : {X : Type 0} → (X → Bool) → Option X → Option X
keep test None = None
keep test (Some x) = if test x then Some x else None

-- what has the key that was found with a level
abbrev pub key_of : {X : Type 0} → List (Option X) → Option (ℕ × ℕ) → Option X
key_of xs None = None
key_of xs (Some found) = slice_index_or xs found.1 None
