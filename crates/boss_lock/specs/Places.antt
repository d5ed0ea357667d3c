-- Source: own.
-- Words that count, and lists of places in a history. Counts are numbers, so that what is said of many
-- seats is a sum over them.
use Rattle.std.specs.Prelude.{◌≡◌, ◌⊎◌, ℕ, zero, suc, ◌+◌, ◌<◌, List, [], ◌∷◌, ◌++◌, length, if◌then◌else◌, nat_lt}
use mathlib.Core.List.{IsPrefix}

-- 1 where the two numbers are equal, else 0
abbrev pub same : ℕ → ℕ → ℕ
same zero zero = 1
same zero (suc j) = 0
same (suc k) zero = 0
same (suc k) (suc j) = same k j

-- 1 where k is less than n, else 0
abbrev pub below : ℕ → ℕ → ℕ
below k zero = 0
below k (suc n) = same k n + below k n

-- how often k stands in a list
abbrev pub times : ℕ → List ℕ → ℕ
times k [] = 0
times k (x ∷ xs) = same k x + times k xs

-- n numbers in a row, the first of them a
abbrev pub numbers_from : ℕ → ℕ → List ℕ
numbers_from a zero = []
numbers_from a (suc n) = a ∷ numbers_from (suc a) n

-- each number is less than n
abbrev pub AllBelow : ℕ → List ℕ → Type 0
AllBelow n [] = Unit {0}
AllBelow n (x ∷ xs) = (x < n) × AllBelow n xs

-- each number is more than n
abbrev pub AllAbove : ℕ → List ℕ → Type 0
AllAbove n [] = Unit {0}
AllAbove n (x ∷ xs) = (n < x) × AllAbove n xs

-- each number is less than all that follow it
abbrev pub Rises : List ℕ → Type 0
Rises [] = Unit {0}
Rises (x ∷ xs) = AllAbove x xs × Rises xs

-- the numbers rise, and each is a place of this list
abbrev pub ArePlacesOf : {E : Type 0} → List ℕ → List E → Type 0
ArePlacesOf ks xs = Rises ks × AllBelow (length xs) ks

-- a number put into a list that rises, at its place
abbrev pub put_in : ℕ → List ℕ → List ℕ
put_in p [] = p ∷ []
put_in p (q ∷ qs) = if nat_lt p q then p ∷ q ∷ qs else q ∷ put_in p qs

-- the numbers of both lists in one that rises
abbrev pub woven : List ℕ → List ℕ → List ℕ
woven [] ys = ys
woven (x ∷ xs) ys = put_in x (woven xs ys)

-- the entry at a place, if there is one
abbrev pub entry_at : {E : Type 0} → List E → ℕ → List E
entry_at [] k = []
entry_at (x ∷ xs) zero = x ∷ []
entry_at (x ∷ xs) (suc k) = entry_at xs k

-- the entries at these places of a history
abbrev pub entries_at : {E : Type 0} → List E → List ℕ → List E
entries_at xs [] = []
entries_at xs (k ∷ ks) = entry_at xs k ++ entries_at xs ks

-- the longer of two lists of which one begins the other
abbrev pub longer : {E : Type 0} → List E → List E → List E
longer [] ys = ys
longer (x ∷ xs) [] = x ∷ xs
longer (x ∷ xs) (y ∷ ys) = x ∷ longer xs ys

-- zs is one of the two lists, and both begin it
abbrev pub IsLonger : {E : Type 0} → List E → List E → List E → Type 0
IsLonger xs ys zs = ((zs ≡ xs) ⊎ (zs ≡ ys)) × IsPrefix xs zs × IsPrefix ys zs

-- the sum of f over a list
abbrev pub total : {A : Type 0} → (A → ℕ) → List A → ℕ
total f [] = 0
total f (x ∷ xs) = f x + total f xs
