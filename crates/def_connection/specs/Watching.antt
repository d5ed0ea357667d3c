-- Source: own.
-- The notices of a process, told on a connection that watches it.
use Rattle.std.specs.Prelude.{◌≡◌, ◌⊎◌, ℕ, ◌+◌, ◌<◌, ◌≤◌, Bool, true, false, if◌then◌else◌, List, [], ◌∷◌, ◌++◌, map, length, Some}
use Rattle.boss_model.specs.declared.answer.Answer.{Answer}
use Rattle.boss_model.specs.declared.answer.Answer.TheVariants as answer
use Rattle.boss_model.specs.declared.command.Command.TheVariants as command
use Rattle.boss_model.specs.declared.notice.Notice.{Notice}
use Rattle.def_history.specs.declared.entry.Entry.{Entry}
use Rattle.def_history.specs.declared.entry.Entry.TheVariants.{Did, Broke}
use Rattle.def_history.specs.History.{deeds}
use Rattle.boss_outside_server.specs.Hosts.{Served}
use Rattle.boss_outside_server.specs.Pauses.{watch_idle}
use Rattle.def_lanes.specs.Works.{Course, Cut, not_cut, by_disk, by_clock, by_memory}
use Rattle.def_connection.specs.Losing.{spoken_of, Lost}
use Rattle.def_connection.specs.Speech.{beginning, Speech, watches}
use Rattle.def_connection.specs.Stopping.{watching}
use Rattle.def_connection.specs.Talks.{Told, Standing}

-- ---- turns

-- in one call at most so many notices are asked for
abbrev pub most_watched : ℕ
most_watched = 64

-- the number from which the next call asks
abbrev pub next_from : ℕ → Answer → ℕ
next_from from (answer.Notices first next list) = next
next_from from other = from

-- an answer has notices
abbrev pub is_some_list : List Notice → Bool
is_some_list [] = false
is_some_list (notice ∷ notices) = true

abbrev pub has_notices : Answer → Bool
has_notices (answer.Notices first next list) = is_some_list list
has_notices other = false

-- the entries of turns, each a moment and an answer
abbrev pub watched_in : ℕ → List ℕ → ℕ → List (ℕ × Answer) → List Entry
watched_in session name from [] = []
watched_in session name from (turn ∷ turns) =
    Did session (command.Notices (Some name) from most_watched) turn.0 turn.1 ∷ watched_in session name (next_from from turn.1) turns

-- the number from which is asked after them
abbrev pub from_after : ℕ → List (ℕ × Answer) → ℕ
from_after from [] = from
from_after from (turn ∷ turns) = from_after (next_from from turn.1) turns

-- the notices of each answer as lines
abbrev pub notes_in : (Answer → List ℕ) → List (ℕ × Answer) → List ℕ
notes_in notes [] = []
notes_in notes (turn ∷ turns) = notes turn.1 ++ notes_in notes turns

-- the turn of this entry had a notice
abbrev pub has_told : Entry → Bool
has_told (Did session command moment answer) = has_notices answer
has_told (Broke session commands others) = false

-- how many turns in a row had none, after one more and after several
abbrev pub quiet_after : ℕ → Entry → ℕ
quiet_after quiet entry = if has_told entry then 0 else quiet + 1

abbrev pub quiet_in : ℕ → List Entry → ℕ
quiet_in quiet [] = quiet
quiet_in quiet (entry ∷ entries) = quiet_in (quiet_after quiet entry) entries

-- before each turn fewer than so many in a row had none
abbrev pub IsAwake : ℕ → ℕ → List Entry → Type 0
IsAwake idle quiet [] = Unit {0}
IsAwake idle quiet (entry ∷ entries) = (quiet < idle) × IsAwake idle (quiet_after quiet entry) entries

-- why a watch ended: before each turn fewer in a row had no notice than end a watch; and where it was not cut off as many had none, or a
-- write failed, or a pause said that the worker is to end
pub record EndsWatch (cut : Cut) (closed : Bool) (write_faults : ℕ) (entries : List Entry) : Type 0 where
  pub awake : IsAwake watch_idle 0 entries
  pub why : cut ≡ not_cut → (quiet_in 0 entries ≡ watch_idle) ⊎ (0 < write_faults) ⊎ (closed ≡ true)

-- ---- what was watched

-- turns of which each was told whole
pub record Watches (notes : Answer → List ℕ) (session : ℕ) (name : List ℕ) (tells ticks : Type 0) (from next : ℕ) (old new : Standing) : Type 0 where
  pub turns : List (ℕ × Answer)
  pub grew : deeds new.own ≡ deeds old.own ++ watched_in session name from turns
  pub asked : next ≡ from_after from turns
  pub told : tells → new.taken ≡ old.taken ++ notes_in notes turns
  pub calm : new.faults ≡ old.faults
  pub gave : ticks → new.given ≡ old.given ++ map (λ turn. turn.0) turns

-- what was watched, by its entries and moments: only a last moment may have no entry, and that only where a call may have had no answer
pub record Noticed (notes : Answer → List ℕ) (session : ℕ) (name : List ℕ) (tells : Type 0) (unanswered : Bool) (from : ℕ) (old new : List ℕ) (before now : ℕ) (entries : List Entry) (moments : List ℕ) : Type 0 where
  pub turns : List (ℕ × Answer)
  pub unused : List ℕ
  pub few : length unused ≤ 1
  pub used : unanswered ≡ false → unused ≡ []
  pub all_entries : entries ≡ watched_in session name from turns
  pub all_moments : moments ≡ map (λ turn. turn.0) turns ++ unused
  pub told : tells → Told old new before now (notes_in notes turns)

-- the same in a pass and of a clock
pub record Watched (notes : Answer → List ℕ) (session : ℕ) (name : List ℕ) (tells ticks : Type 0) (unanswered : Bool) (from : ℕ) (old new : Standing) : Type 0 where
  pub more : List Entry
  pub moments : List ℕ
  pub grew : deeds new.own ≡ deeds old.own ++ more
  pub gave : ticks → new.given ≡ old.given ++ moments
  pub noticed : Noticed notes session name tells unanswered from old.taken new.taken old.faults new.faults more moments

-- a call had no answer since the disk has failed, or since there was no memory for it
abbrev pub is_unanswered : Cut → Bool
is_unanswered not_cut = false
is_unanswered by_disk = true
is_unanswered by_clock = false
is_unanswered by_memory = true

-- an ended connection agrees with these entries: the first line of its input that is not passed over asks to watch, and is the last one
-- that was taken; they are what was then watched, and its output took the notices. Where it was not cut off, there is an entry, and it
-- ended for one of three reasons
pub record IsWatchOf (speech : Speech) (notes : Answer → List ℕ) (tells : Type 0) (served : Served) (course : Course) (entries : List Entry) : Type 0 where
  pub name : List ℕ
  pub from : ℕ
  pub taken : List (List ℕ)
  pub lost : Lost served.held served.left taken (watching name from)
  pub line : List ℕ
  pub lines : spoken_of taken ≡ line ∷ []
  pub asked : speech.manner.reading beginning line ≡ watches name from
  pub some : course.cut ≡ not_cut → ¬ (entries ≡ [])
  pub ends : EndsWatch course.cut course.closed served.write_faults entries
  pub noticed : Noticed notes served.session name tells (is_unanswered course.cut) from [] served.taken 0 served.write_faults entries course.moments
