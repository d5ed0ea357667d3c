-- Source: own.
-- What the program says of a journal whose moments are taken back.
use Rattle.std.specs.Prelude.{ℕ, List, [], ◌∷◌, ◌++◌, length, codes, decimal}
use Rattle.boss_journal_lines.specs.Reports.{summary_line}
use Rattle.boss_model.specs.State.{Persistent}

-- what it stands for then: how many events, the moment of the last change, how many leases and how many reversions
abbrev pub shifted_line : ℕ → Persistent → List ℕ
shifted_line number d = codes "shifted " ++ summary_line number d.now (length d.leases) (length d.pending)

-- by how many milliseconds they can be taken back at most
abbrev pub too_far_line : ℕ → List ℕ
too_far_line most = codes "shift too-far " ++ decimal most ++ 10 ∷ []
