-- Source: own (lines end with byte 10, as POSIX.1-2017, definition 3.206, but the last may lack it).
use Rattle.std.specs.Prelude.{ℕ, ◌==◌, ◌||◌, Bool, if◌then◌else◌, List, [], ◌∷◌}
use Rattle.std.specs.List.{onto_first, list_all}

-- the pieces between bytes 10; the last one only where it is not empty
abbrev pub lines : List ℕ → List (List ℕ)
lines [] = []
lines (byte ∷ bytes) = if byte == 10 then [] ∷ lines bytes else onto_first byte (lines bytes)

-- one more byte before the first line, if there is a line
abbrev pub before_first : ℕ → List (List ℕ) → List (List ℕ)
before_first byte [] = []
before_first byte (line ∷ others) = (byte ∷ line) ∷ others

-- the lines that have their end: the pieces before bytes 10
abbrev pub whole_lines : List ℕ → List (List ℕ)
whole_lines [] = []
whole_lines (byte ∷ bytes) = if byte == 10 then [] ∷ whole_lines bytes else before_first byte (whole_lines bytes)

-- nothing but tabs, carriage returns and spaces; such a line is passed over
abbrev pub is_blank : List ℕ → Bool
is_blank line = list_all (λ byte. byte == 9 || byte == 13 || byte == 32) line
