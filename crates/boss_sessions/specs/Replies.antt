-- Source: own.
-- Replies that are held in a buffer, and written together.
use Rattle.std.specs.Prelude.{◌≡◌, ℕ, ◌+◌, List, ◌++◌, Result, Ok, Err}
use Rattle.boss_model.specs.Limits.{answer_room}
use Rattle.boss_outside.specs.Streams.{TakesFront}

-- bytes that are held, at most, where one more answer is put behind them; those of the line of why no more was done, at most; and
-- those that have room
abbrev pub most_unsent : ℕ
most_unsent = answer_room

abbrev pub last_room : ℕ
last_room = 128

abbrev pub reply_room : ℕ
reply_room = most_unsent + answer_room + last_room

-- bytes were put behind those that the buffer held, and the sink took a front of all
pub record Puts (taken held taken' held' bytes : List ℕ) : Type 0 where
  pub written : List ℕ
  pub took : taken' ≡ taken ++ written
  pub holds : written ++ held' ≡ held ++ bytes

-- the same, or a write failed
abbrev pub PutsBy : {T E : Type 0} → List ℕ → List ℕ → List ℕ → List ℕ → List ℕ → Result T E → Type 0
PutsBy taken held taken' held' bytes (Ok done) = Puts taken held taken' held' bytes
PutsBy taken held taken' held' bytes (Err failed) = TakesFront taken taken' (held ++ bytes)
