-- Source: own.
-- How far the lines of a connection were taken.
use Rattle.std.specs.Prelude.{◌≡◌, ℕ, ◌+◌, ◌≤◌, false, List, [], ◌∷◌, ◌++◌, length, Option, Some, None}
use Rattle.std.specs.List.{AllByRecursion}
use Rattle.boss_model.specs.Lines.{lines, whole_lines}
use Rattle.boss_outside.specs.Counts.{Rose}
use Rattle.boss_outside.specs.declared.source.ReadAt.{ReadAt}
use Rattle.boss_lines.specs.declared.reader.Next.{Next}
use Rattle.boss_lines.specs.declared.reader.Next.TheVariants as next
use Rattle.boss_lines.specs.Lines.{StopsAt}
use Rattle.boss_lines.specs.Window.{IsTooLong, NoLineEnd}
use Rattle.def_connection.specs.Losing.{is_too_long, spoken_of}
use Rattle.def_connection.specs.Speech.{Footing}
use Rattle.boss_sessions.specs.declared.hearing.Hearing.{Hearing}
use Rattle.boss_sessions.specs.declared.heard.Heard.{Heard}
use Rattle.boss_sessions.specs.declared.heard.Heard.TheVariants.{Limit, Finish, TooLong, ReadFault}

-- the bytes that were read ahead, the answer that the reader stopped at, the bytes that are left of the source, and how many
-- lines may still be taken
pub record Place : Type 0 where
  pub ahead : List ℕ
  pub stopped : Option Next
  pub left : List ℕ
  pub lines : ℕ

abbrev pub place_of : Hearing → List ℕ → Place
place_of hearing left = record { ahead = hearing.reader.ahead; stopped = hearing.reader.stopped; left = left; lines = hearing.lines }

-- on what footing the next line is read
abbrev pub footing_of : Hearing → Footing
footing_of hearing = record { later = hearing.later; known = hearing.known }

-- the bytes that are still to come
abbrev pub to_come : Place → List ℕ
to_come place = place.ahead ++ place.left

-- These lines were taken of the front of the bytes, and the rest is still to come. Unless the source has told its end, each has its
-- line end, and whatever stands behind that front has the lines that follow.
pub record Takes (bytes : List ℕ) (all : List (List ℕ)) (rest : List ℕ) (stopped : Option Next) : Type 0 where
  pub front : List ℕ
  pub split : bytes ≡ front ++ rest
  pub given : lines bytes ≡ all ++ lines rest
  pub going : ¬ (stopped ≡ Some next.Finish) → (more : List ℕ) → (lines (front ++ more) ≡ all ++ lines more) × (whole_lines (front ++ more) ≡ all ++ whole_lines more)

pub record Advances (heeds : Type 0) (all : List (List ℕ)) (old new : Place) : Type 0 where
  pub counted : old.lines ≡ new.lines + length all
  pub short : AllByRecursion (λ line. is_too_long line ≡ false) all
  pub takes : heeds → Takes (to_come old) all (to_come new) new.stopped
  pub over : old.stopped ≡ Some next.Finish → new.stopped ≡ Some next.Finish
  -- where the source has told its end nothing is to come
  pub closed : heeds → new.stopped ≡ Some next.Finish → to_come new ≡ []

-- more lines may come: no read has failed and no line was too long
pub record IsOpen (heeds : Type 0) (place : Place) : Type 0 where
  pub going : StopsAt next.Line place.stopped
  pub over : heeds → place.stopped ≡ Some next.Finish → to_come place ≡ []

-- a line was taken, or something else came
abbrev pub taken_by : List ℕ → Option Heard → List (List ℕ)
taken_by line None = line ∷ []
taken_by line (Some heard) = []

-- how it stands where no line came: only at the limit no more may be taken
abbrev pub IsAtStop : Type 0 → Place → Heard → Type 0
IsAtStop heeds place Limit = place.lines ≡ 0
IsAtStop heeds place Finish = (1 ≤ place.lines) × (place.ahead ≡ []) × (heeds → place.left ≡ [])
IsAtStop heeds place TooLong = (1 ≤ place.lines) × IsTooLong place.ahead
IsAtStop heeds place ReadFault = (1 ≤ place.lines) × NoLineEnd (length place.ahead) place.ahead × (place.stopped ≡ Some next.ReadFault)
IsAtStop heeds place other = ⊥

abbrev pub StopsFor : Type 0 → Place → Option Heard → Type 0
StopsFor heeds place None = IsOpen heeds place
StopsFor heeds place (Some heard) = IsAtStop heeds place heard

-- a read failed exactly where the count rose
abbrev pub SourceCause : ℕ → ℕ → Heard → Type 0
SourceCause before now ReadFault = Rose before now
SourceCause before now other = now ≡ before

abbrev pub SourceStops : ℕ → ℕ → Option Heard → Type 0
SourceStops before now None = now ≡ before
SourceStops before now (Some heard) = SourceCause before now heard

-- A read was made when the bytes that had come by then had no whole line but blank ones; and so many bytes the sink had taken, as far as
-- the source was shown
pub record IsReadAt (place : Place) (told : ℕ) (at : ReadAt) : Type 0 where
  pub going : place.stopped ≡ None
  pub come : List ℕ
  pub rest : List ℕ
  pub split : to_come place ≡ come ++ rest
  pub left : at.left ≡ length rest
  pub silent : spoken_of (whole_lines come) ≡ []
  pub shown : at.told ≡ told
