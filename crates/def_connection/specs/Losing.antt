-- Source: own.
-- The lines that were taken of a connection's input, by the bytes that it lost.
use Rattle.std.specs.Prelude.{◌≡◌, ℕ, ◌<◌, ◌≤◌, nat_lt, length, Bool, true, false, not, List, [], ◌∷◌, ◌++◌, filter}
use Rattle.std.specs.List.{AllByRecursion}
use Rattle.boss_model.specs.Limits.{longest_line, most_lines}
use Rattle.boss_model.specs.Lines.{lines, whole_lines, is_blank}
use Rattle.def_connection.specs.Stopping.{Stop, finish, read_fault, long_line, long_untold, limit, nothing}

-- the lines that are not passed over
abbrev pub spoken_of : List (List ℕ) → List (List ℕ)
spoken_of all = filter (λ line. not (is_blank line)) all

abbrev pub is_too_long : List ℕ → Bool
is_too_long line = nat_lt longest_line (length line)

-- the first of these lines is too long
abbrev pub BeginsLong : List (List ℕ) → Type 0
BeginsLong [] = ⊥
BeginsLong (line ∷ others) = is_too_long line ≡ true

-- Which lines were taken of the bytes that were lost, by why the talk stopped; more lines were read ahead, or a piece of one. All at the
-- end of the input; where a line was too long, those before it; as many as are taken at the limit, which is before the end; and where a
-- read failed, those that have their line end
abbrev pub LostAt : List ℕ → List ℕ → List (List ℕ) → List (List ℕ) → Stop → Type 0
LostAt lost left taken more finish = (left ≡ []) × (more ≡ []) × (length taken < most_lines)
LostAt lost left taken more long_line = BeginsLong more × (length taken < most_lines)
LostAt lost left taken more long_untold = BeginsLong more × (length taken < most_lines)
LostAt lost left taken more limit = length taken ≡ most_lines
LostAt lost left taken more read_fault = (taken ≡ whole_lines lost) × (length taken < most_lines)
LostAt lost left taken more nothing = lost ≡ []
LostAt lost left taken more other = length taken ≤ most_lines

-- these lines were taken of the bytes that were lost: none is too long, and each has its line end while something is left of the input
pub record Lost (bytes left : List ℕ) (taken : List (List ℕ)) (stop : Stop) : Type 0 where
  pub lost : List ℕ
  pub more : List (List ℕ)
  pub split : bytes ≡ lost ++ left
  pub lines_are : lines lost ≡ taken ++ more
  pub short : AllByRecursion (λ line. is_too_long line ≡ false) taken
  pub whole : ¬ (left ≡ []) → (others : List (List ℕ)) × (whole_lines lost ≡ taken ++ others)
  pub at : LostAt lost left taken more stop
