-- Source: own.
-- Notices as a state has them: without their numbers, which go up to the number of notices so far.
use Rattle.std.specs.Prelude.{ℕ, List, length, Option, Some}
use Rattle.def_bytes.specs.Fields.{◌>>=◌}
use Rattle.boss_model.specs.declared.notice.Notice.{Notice}
use Rattle.boss_model.specs.declared.notice.What.{What}
use Rattle.def_bytes.specs.States.{numbered_from, first_of_last, sent}

-- what was read, with numbers from this one on
abbrev pub numbered : ℕ → Option (List (ℕ × (ℕ × What)) × List ℕ) → Option (List Notice × List ℕ)
numbered first found = found >>= λ x. Some (numbered_from first x.0, x.1)

-- the number of notices so far, and the last of them with their numbers
abbrev pub sent_at : List ℕ → Option ((ℕ × List Notice) × List ℕ)
sent_at bytes = sent.at bytes >>= λ x. Some ((x.0.0, numbered_from (first_of_last x.0.0 (length x.0.1)) x.0.1), x.1)
