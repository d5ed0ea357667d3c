-- Source: own.
-- What the worker that lets time pass has done, as its lane has it.
use Rattle.std.specs.Prelude.{◌≡◌, ℕ, List, ◌++◌, length}
use Rattle.boss_model.specs.declared.answer.Answer.{Answer}
use Rattle.def_history.specs.declared.entry.Entry.{Entry}
use Rattle.def_lanes.specs.Waits.{paused}
use Rattle.def_lanes.specs.Works.{Course}
use Rattle.boss_expiry.specs.declared.end.WorkEnd.{WorkEnd}
use Rattle.boss_expiry.specs.Ends.{cut_of, unused}
use Rattle.boss_expiry.specs.Ticking.{moments, ticks}

-- the entries are ticks, one for each pause of a waiter that tells them, and each at a moment of its own that the clock gave for it; only
-- where the disk has failed one moment more was given
pub record IsBeatOf (pausing : Type 0) (pauses : ℕ) (course : Course) (entries : List Entry) : Type 0 where
  pub turns : List (ℕ × Answer)
  pub last : ℕ
  pub end : WorkEnd
  pub entries_are : entries ≡ ticks turns
  pub moments_are : course.moments ≡ moments turns ++ unused last end
  pub cut_is : course.cut ≡ cut_of end
  pub waited : pausing → pauses ≡ paused (length turns) 0
