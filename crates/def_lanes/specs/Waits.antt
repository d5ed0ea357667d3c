-- Source: own.
-- How workers waited, as their waiters noted it.
use Rattle.std.specs.Prelude.{◌≡◌, ℕ, zero, suc, ◌+◌, ◌<◌, ◌≤◌, min, Bool, false, List, Some, slice_get, length, if◌then◌else◌}
use Rattle.std.specs.List.{AllByRecursion}
use Rattle.boss_model.specs.Limits.{last_number}
use Rattle.boss_outside.specs.Bells.{driver_bell, time_bell}
use Rattle.boss_outside_server.specs.Pauses.{drive_pause, held_pause, tick_pause, watch_pause}
use Rattle.boss_outside_server.specs.declared.waited.Leaving.{Leaving}
use Rattle.boss_outside_server.specs.declared.waited.Leaving.TheVariants.{NotYet, Once}
use Rattle.boss_outside_server.specs.declared.waited.Lengths.{Lengths}
use Rattle.boss_outside_server.specs.declared.waited.Lengths.TheVariants.{NoPause, Within}
use Rattle.boss_outside_server.specs.declared.waited.Waited.{Waited}
use Rattle.boss_outside_server.specs.Waits.{one_pause_more}
use Rattle.def_lanes.specs.Works.{Work, visit, beat, drive, closed_in, works_of}

-- ---- pauses

-- the number of pauses after so many turns, each of which made one
abbrev pub paused : ℕ → ℕ → ℕ
paused zero pauses = pauses
paused (suc turns) pauses = one_pause_more (paused turns pauses)

-- of so many pauses each was so long at least, and so long at most, in milliseconds
abbrev pub AreWithin : ℕ → ℕ → ℕ → Lengths → Type 0
AreWithin zero least most lengths = lengths ≡ NoPause
AreWithin (suc pauses) least most lengths = (low : ℕ) × (high : ℕ) × (lengths ≡ Within low high) × (least ≤ low) × (low ≤ high) × (high ≤ most)

abbrev pub IsSteady : ℕ → ℕ → Waited → Type 0
IsSteady least most waited = AreWithin waited.pauses least most waited.lengths

-- pauses that said Close were counted, one at least where this stands, as far as that counts
abbrev pub HasClosed : Bool → ℕ → ℕ → Type 0
HasClosed closed before now = min (before + (if closed then 1 else 0)) last_number ≤ now

-- A call did no more with a waiter than to make pauses, each of which was so long at least and so long at most
pub record PausedWithin (least most : ℕ) (old new : Waited) : Type 0 where
  pub steady : IsSteady least most old → IsSteady least most new
  pub closes : HasClosed false old.closes new.closes
  pub expected : new.expected ≡ old.expected
  pub leaving : new.leaving ≡ old.leaving
  pub bell : new.bell ≡ old.bell

-- each of one length
abbrev pub PausedFor : ℕ → Waited → Waited → Type 0
PausedFor milliseconds old new = PausedWithin milliseconds milliseconds old new

-- the same, where it listened at bells too
abbrev pub PausedAround : ℕ → Waited → Waited → Type 0
PausedAround milliseconds old new = PausedFor milliseconds (record old { bell = new.bell }) new

-- where there was a pause, the worker had listened at this bell
abbrev pub Listened : ℕ → Waited → Type 0
Listened bell waited = 0 < waited.pauses → waited.bell ≡ Some bell

-- ---- workers at their places

-- what the waiter of a worker noted is what its work has; of a connection nothing is said
abbrev pub IsNoteOf : Waited → Work → Type 0
IsNoteOf note (visit served course) = Unit {0}
IsNoteOf note (beat waited course) = note ≡ waited
IsNoteOf note (drive driver calls waited course) = note ≡ waited

-- it stands at the worker's place
abbrev pub IsWaited : ℕ → List Waited → Work → Type 0
IsWaited workers notes (visit served course) = Unit {0}
IsWaited workers notes (beat waited course) = slice_get notes workers ≡ Some waited
IsWaited workers notes (drive driver calls waited course) = slice_get notes (workers + 1 + driver) ≡ Some waited

abbrev pub AreWaited : ℕ → List Waited → List Work → Type 0
AreWaited workers notes works = AllByRecursion (IsWaited workers notes) works

-- all pauses were so long at least and at most, and the worker left so
pub record WaitedSo (least most : ℕ) (leaving : Leaving) (waited : Waited) : Type 0 where
  pub steady : IsSteady least most waited
  pub left : waited.leaving ≡ leaving

-- each of these connections that a pause ended had a pause of its own that said Close
abbrev pub CountsClosed : List Work → Waited → Type 0
CountsClosed own waited = min (closed_in own) last_number ≤ waited.closes

-- A worker of a server, with this number, that has so many workers for connections, and what it did. Before it began it was told how
-- many of them are waited for. One that serves connections leaves once, behind the last; no other ever leaves. The workers for time and
-- for a driver listen at bells of their own
pub record WaitedAt (workers number : ℕ) (own : List Work) (waited : Waited) : Type 0 where
  pub told : waited.expected ≡ workers
  pub serves : number < workers → WaitedSo watch_pause watch_pause (Once (length own)) waited
  pub closes : number < workers → CountsClosed own waited
  pub ticks : number ≡ workers → WaitedSo tick_pause tick_pause NotYet waited
  pub drives : workers < number → WaitedSo held_pause drive_pause NotYet waited
  pub hears_time : number ≡ workers → Listened time_bell waited
  pub hears_driver : (driver : ℕ) → number ≡ workers + 1 + driver → Listened (driver_bell driver) waited

-- the same of each worker, and of what it did
abbrev pub AreWaitedAt : ℕ → List Waited → List Work → Type 0
AreWaitedAt workers notes works =
    (number : ℕ) (waited : Waited) → slice_get notes number ≡ Some waited → WaitedAt workers number (works_of workers number works) waited
