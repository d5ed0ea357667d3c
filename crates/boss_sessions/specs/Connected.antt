-- Source: own.
-- A connection that was served.
use Rattle.std.specs.Prelude.{◌≡◌, ℕ, false, List, length, Option}
use Rattle.boss_outside.specs.declared.source.ReadAt.{ReadAt}
use Rattle.boss_outside.specs.Notes.{NotesEach}
use Rattle.def_connection.specs.Answered.{IsAnswered}
use Rattle.def_connection.specs.Losing.{spoken_of, Lost}
use Rattle.def_connection.specs.Speech.{Speech}
use Rattle.def_connection.specs.Stopping.{Stop}
use Rattle.def_connection.specs.Talks.{Standing, Talked}
use Rattle.boss_sessions.specs.declared.end.SessionEnd.{SessionEnd}
use Rattle.boss_sessions.specs.Ends.{end_for, is_stop_end}

-- A whole talk, of the lines that were taken. Of a source that tells its bytes, these are lines of those that it lost. The end tells why
-- the talk stopped, unless the disk has failed. Each read was made when all that had come whole was answered
pub record Connected (speech : Speech) (session : ℕ) (heeds tells ticks : Type 0) (bytes left : List ℕ) (reads reads' : Option (List ReadAt)) (old new : Standing) (end : SessionEnd) : Type 0 where
  pub taken : List (List ℕ)
  pub stop : Stop
  pub talked : Talked speech session tells ticks (spoken_of taken) stop (is_stop_end end) old new
  pub end_is : is_stop_end end ≡ false → end ≡ end_for stop
  pub lost : heeds → Lost bytes left taken stop
  pub answered : heeds → tells → NotesEach (IsAnswered speech bytes (length old.taken) talked.exchanged.talk) reads reads'
