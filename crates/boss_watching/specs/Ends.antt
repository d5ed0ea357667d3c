-- Source: own.
-- Why a connection is watched for no longer.
use Rattle.std.specs.Prelude.{◌≡◌, ℕ, ◌<◌, Bool, true, false, List, length}
use Rattle.boss_outside.specs.Counts.{Rose}
use Rattle.def_history.specs.declared.entry.Entry.{Entry}
use Rattle.def_history.specs.History.{deeds, is_broken}
use Rattle.boss_watching.specs.declared.end.WatchEnd.{WatchEnd}
use Rattle.boss_watching.specs.declared.end.WatchEnd.TheVariants.{Idle, Closed, WriteFault, ClockFault, Stopped, DiskFault, NoMemory}
use Rattle.boss_watching.specs.Turns.{Lasts}

-- the clock failed exactly where its count rose, and the sink where its own did
abbrev pub ClockCause : ℕ → ℕ → WatchEnd → Type 0
ClockCause before now ClockFault = Rose before now
ClockCause before now other = now ≡ before

abbrev pub WriteCause : ℕ → ℕ → WatchEnd → Type 0
WriteCause before now WriteFault = Rose before now
WriteCause before now other = now ≡ before

-- the disk has failed where it is said so
abbrev pub DiskCause : List Entry → WatchEnd → Type 0
DiskCause seen Stopped = is_broken seen ≡ true
DiskCause seen DiskFault = is_broken seen ≡ true
DiskCause seen other = Unit {0}

-- a pause said Close, and where none did the count stays; at the last pause before Idle it does not matter
abbrev pub CloseCause : Type 0 → Bool → ℕ → ℕ → WatchEnd → Type 0
CloseCause pausing closed before now Idle = Unit {0}
CloseCause pausing closed before now Closed = (pausing → closed ≡ true) × Rose before now
CloseCause pausing closed before now other = now ≡ before

-- a pause ended it, and said Close
abbrev pub is_closed_end : WatchEnd → Bool
is_closed_end Closed = true
is_closed_end other = false

-- so many turns in a row had no notice exactly where it says Idle; where nothing could be set up there was no turn
abbrev pub IdleCause : ℕ → ℕ → WatchEnd → Type 0
IdleCause idle quiet Idle = quiet ≡ idle
IdleCause idle quiet NoMemory = Unit {0}
IdleCause idle quiet other = quiet < idle

-- a call at least was answered, unless the clock, the disk or want of memory was the end, or there was to be no turn
abbrev pub HasCalled : ℕ → List Entry → List Entry → WatchEnd → Type 0
HasCalled idle old new Idle = 0 < idle → length (deeds old) < length (deeds new)
HasCalled idle old new Closed = length (deeds old) < length (deeds new)
HasCalled idle old new WriteFault = length (deeds old) < length (deeds new)
HasCalled idle old new other = Unit {0}

-- The turns up to the end
pub record Lasted (idle : ℕ) (old new : List Entry) (pausing : Type 0) (pauses pauses' : ℕ) (end : WatchEnd) : Type 0 where
  pub quiet : ℕ
  pub lasts : Lasts idle 0 quiet old new pausing pauses pauses'
  pub is_idle : IdleCause idle quiet end

-- the last call had no answer: the disk has failed, or there was no memory for it
abbrev pub is_unanswered_end : WatchEnd → Bool
is_unanswered_end Stopped = true
is_unanswered_end DiskFault = true
is_unanswered_end NoMemory = true
is_unanswered_end other = false

-- what a call of the desk may end it by
abbrev pub IsCall : WatchEnd → Type 0
IsCall Stopped = Unit {0}
IsCall DiskFault = Unit {0}
IsCall NoMemory = Unit {0}
IsCall other = ⊥

-- what may end a turn before its pause
abbrev pub IsCut : WatchEnd → Type 0
IsCut Idle = ⊥
IsCut Closed = ⊥
IsCut other = Unit {0}
