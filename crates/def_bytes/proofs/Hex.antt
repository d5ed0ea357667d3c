-- Bytes in hexadecimal: two digits a byte, with blanks between as one likes.
use Rattle.std.specs.Prelude.{ℕ, ◌+◌, ◌-◌, ◌*◌, nat_lt, ◌==◌, not, if◌then◌else◌, List, [], ◌∷◌}
use Rattle.std.specs.List.{filter}

abbrev digit : ℕ → ℕ
digit c = if nat_lt c 97 then c - 48 else c - 87

abbrev pairs : List ℕ → List ℕ
pairs (high ∷ low ∷ rest) = (16 * digit high + digit low) ∷ pairs rest
pairs rest = []

abbrev pub hex : List ℕ → List ℕ
hex text = pairs (filter (λ c. not (c == 32)) text)
