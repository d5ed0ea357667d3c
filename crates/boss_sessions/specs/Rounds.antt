-- Source: own.
-- A session line by line: as far as it goes on, and where it ends.
use Rattle.std.specs.Prelude.{◌≡◌, ℕ, ◌≤◌, false, List, length, Option, Some, None, vec_capacity}
use Rattle.boss_model.specs.Limits.{last_moment}
use Rattle.boss_outside.specs.declared.source.ReadAt.{ReadAt}
use Rattle.boss_outside.specs.Notes.{NotesEach}
use Rattle.boss_sessions.specs.Ends.{end_for, is_stop_end}
use Rattle.boss_sessions.specs.Places.{Place, Advances, IsAtStop, IsOpen, to_come}
use Rattle.boss_sessions.specs.Replies.{reply_room}
use Rattle.def_connection.specs.Answered.{IsAnswered}
use Rattle.def_connection.specs.Losing.{spoken_of}
use Rattle.def_connection.specs.Speech.{Footing, Speech, Exchange}
use Rattle.def_connection.specs.Stopping.{Stop, finish, read_fault, long_line, long_untold, limit, nothing, is_disk}
use Rattle.def_connection.specs.Talks.{Standing, Goes, Stops}
use Rattle.boss_sessions.specs.declared.end.SessionEnd.{SessionEnd}
use Rattle.boss_sessions.specs.declared.heard.Heard.TheVariants.{Limit, Finish, TooLong, ReadFault}
use Rattle.boss_sessions.specs.declared.session.Session.{Session}

-- a session's room, and its last moment
pub record HasRoom (session : Session) : Type 0 where
  pub answers : 16 ≤ vec_capacity session.answers
  pub text : reply_room ≤ session.text.capacity
  pub soon : session.last ≤ last_moment

-- the session's process has this name, or it has none
abbrev pub named : Standing → Option (List ℕ) → Standing
named standing name = record standing { name = name }

-- how the lines stand by why the talk stopped
abbrev pub EndsAt : Type 0 → Place → Stop → Type 0
EndsAt heeds place finish = IsAtStop heeds place Finish
EndsAt heeds place read_fault = IsAtStop heeds place ReadFault
EndsAt heeds place long_line = IsAtStop heeds place TooLong
EndsAt heeds place long_untold = IsAtStop heeds place TooLong
EndsAt heeds place limit = IsAtStop heeds place Limit
EndsAt heeds place nothing = ⊥
EndsAt heeds place other = Unit {0}

module _ (speech : Speech) (number : ℕ) (heeds tells ticks : Type 0) where
  -- lines were taken and answered, up to the end
  pub record Ended (at : Footing) (place place' : Place) (old new : Standing) (end : SessionEnd) : Type 0 where
    pub taken : List (List ℕ)
    pub stop : Stop
    pub advances : Advances heeds taken place place'
    pub stops : Stops speech number tells ticks at (spoken_of taken) stop old new
    pub ends : EndsAt heeds place' stop
    pub broken : is_stop_end end ≡ is_disk stop
    pub end_is : is_stop_end end ≡ false → end ≡ end_for stop

  -- lines were taken and answered, and more may come
  pub record GoesOn (at at' : Footing) (place place' : Place) (old new : Standing) : Type 0 where
    pub taken : List (List ℕ)
    pub advances : Advances heeds taken place place'
    pub goes : Goes speech number tells ticks at at' (spoken_of taken) old new

  abbrev pub Rounded : Footing → Footing → Place → Place → Standing → Standing → Option SessionEnd → Type 0
  Rounded at at' place place' old new None = GoesOn at at' place place' old new × IsOpen heeds place'
  Rounded at at' place place' old new (Some end) = Ended at place place' old new end

  -- each read was made when all that had come whole was answered by this talk
  abbrev pub AreAnswered : Place → List ℕ → List Exchange → Option (List ReadAt) → Option (List ReadAt) → Type 0
  AreAnswered place taken talk reads reads' = heeds → tells → NotesEach (IsAnswered speech (to_come place) (length taken) talk) reads reads'

  pub record GoesOnAnswered (at at' : Footing) (place place' : Place) (old new : Standing) (reads reads' : Option (List ReadAt)) : Type 0 where
    pub goes_on : GoesOn at at' place place' old new
    pub answered : AreAnswered place old.taken goes_on.goes.talk reads reads'

  pub record EndedAnswered (at : Footing) (place place' : Place) (old new : Standing) (reads reads' : Option (List ReadAt)) (end : SessionEnd) : Type 0 where
    pub ended : Ended at place place' old new end
    pub answered : AreAnswered place old.taken ended.stops.talk reads reads'
