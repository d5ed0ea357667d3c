-- Source: own.
-- What the program says of a changed catalogue that a journal is to be kept under.
use Rattle.std.specs.Prelude.{ℕ, List, [], ◌∷◌, ◌++◌, codes, decimal}

-- how many events, how many points of the new catalogue, how many points are removed and how many added
abbrev pub adopted_line : ℕ → ℕ → ℕ → ℕ → List ℕ
adopted_line events points removed added =
    codes "adopted events " ++ decimal events ++ codes " points " ++ decimal points ++ codes " removed " ++ decimal removed ++ codes " added " ++ decimal added ++ 10 ∷ []

-- a removed point that a transaction which is not done wrote
abbrev pub in_use_line : List ℕ → List ℕ
in_use_line name = codes "adopt in-use " ++ name ++ 10 ∷ []

-- a point with a value that it takes no more
abbrev pub unfit_line : List ℕ → List ℕ
unfit_line name = codes "adopt unfit " ++ name ++ 10 ∷ []
