-- Source: own.
-- What the program says of a feed that was followed.
use Rattle.std.specs.Prelude.{ℕ, List, [], ◌∷◌, ◌++◌, length, codes, decimal}
use Rattle.boss_journal_lines.specs.Reports.{summary_line}
use Rattle.boss_model.specs.State.{Persistent}

-- what it led to: how many events, the moment of the last change, how many leases and how many reversions
abbrev pub followed_line : ℕ → Persistent → List ℕ
followed_line number d = codes "standby " ++ summary_line number d.now (length d.leases) (length d.pending)

-- the number of the last event that is known, and that of the event that came in place of the next
abbrev pub gap_line : ℕ → ℕ → List ℕ
gap_line have found = codes "standby gap " ++ decimal have ++ codes " " ++ decimal found ++ 10 ∷ []

-- the number of a line that is at fault, from 1 on
abbrev pub bad_line : ℕ → List ℕ
bad_line line = codes "standby bad-line " ++ decimal line ++ 10 ∷ []

-- a feed that ends within a state
abbrev pub short_line : List ℕ
short_line = codes "standby short" ++ 10 ∷ []
