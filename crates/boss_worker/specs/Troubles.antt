-- Source: own.
-- What went wrong at the workers of a server, and what counts say of it.
use Rattle.std.specs.Prelude.{◌≡◌, ℕ, ◌<◌, Bool, true, false, ◌||◌, List}
use Rattle.boss_outside.specs.Counts.{Rose}
use Rattle.boss_sessions.specs.declared.end.SessionEnd.{SessionEnd}
use Rattle.def_lanes.specs.Works.{Course, Cut, not_cut, by_disk, by_clock, by_memory}
use Rattle.boss_sessions.specs.declared.end.SessionEnd.TheVariants as session
use Rattle.boss_expiry.specs.declared.end.WorkEnd.{WorkEnd}
use Rattle.boss_expiry.specs.declared.end.WorkEnd.TheVariants as work
use Rattle.boss_watching.specs.declared.end.WatchEnd.{WatchEnd}
use Rattle.boss_watching.specs.declared.end.WatchEnd.TheVariants as watch
use Rattle.boss_guard.specs.declared.end.GuardEnd.{GuardEnd}
use Rattle.boss_guard.specs.declared.end.GuardEnd.TheVariants as guard
use Rattle.boss_worker.specs.declared.flags.Flags.{Flags}
use Rattle.boss_worker.specs.declared.trouble.Trouble.{Trouble}
use Rattle.boss_worker.specs.declared.trouble.Trouble.TheVariants.{Nothing, Disk, Clock, Memory}

-- ---- ends

abbrev pub trouble_of : SessionEnd → Trouble
trouble_of session.Stopped = Disk
trouble_of session.DiskFault = Disk
trouble_of session.ClockFault = Clock
trouble_of session.NoMemory = Memory
trouble_of other = Nothing

abbrev pub trouble_of_watch : WatchEnd → Trouble
trouble_of_watch watch.Stopped = Disk
trouble_of_watch watch.DiskFault = Disk
trouble_of_watch watch.ClockFault = Clock
trouble_of_watch watch.NoMemory = Memory
trouble_of_watch other = Nothing

abbrev pub trouble_of_work : WorkEnd → Trouble
trouble_of_work work.Stopped = Disk
trouble_of_work work.DiskFault = Disk
trouble_of_work work.ClockFault = Clock
trouble_of_work other = Nothing

abbrev pub trouble_of_guard : GuardEnd → Trouble
trouble_of_guard (guard.Worked end) = trouble_of_work end
trouble_of_guard guard.NoMemory = Memory

-- what a connection was cut off by
abbrev pub cut_by : Trouble → Cut
cut_by Nothing = not_cut
cut_by Disk = by_disk
cut_by Clock = by_clock
cut_by Memory = by_memory

-- how a connection went that was cut off so, and whether a pause ended it
abbrev pub course_by : List ℕ → Trouble → Bool → Course
course_by moments trouble closed = record { moments = moments; cut = cut_by trouble; closed = closed }

-- ---- flags

abbrev pub no_flags : Flags
no_flags = record { disk = false; host = false; clock = false; memory = false }

abbrev pub flags_after : Trouble → Flags → Flags
flags_after Nothing flags = flags
flags_after Disk flags = record { disk = true; host = flags.host; clock = flags.clock; memory = flags.memory }
flags_after Clock flags = record { disk = flags.disk; host = flags.host; clock = true; memory = flags.memory }
flags_after Memory flags = record { disk = flags.disk; host = flags.host; clock = flags.clock; memory = true }

abbrev pub failed_host : Flags → Flags
failed_host flags = record { disk = flags.disk; host = true; clock = flags.clock; memory = flags.memory }

abbrev pub both_flags : Flags → Flags → Flags
both_flags flags others = record {
  disk = flags.disk || others.disk;
  host = flags.host || others.host;
  clock = flags.clock || others.clock;
  memory = flags.memory || others.memory;
}

-- ---- counts, of which the flags are the causes

-- a part's count, 0 as it begins, is above 0 exactly where the flag stands
abbrev pub Counts : Bool → ℕ → Type 0
Counts true count = 0 < count
Counts false count = count ≡ 0

-- the clock failed exactly where its count rose, unless the disk has failed too
abbrev pub ClockTrouble : ℕ → ℕ → Trouble → Type 0
ClockTrouble before now Nothing = now ≡ before
ClockTrouble before now Disk = Unit {0}
ClockTrouble before now Clock = Rose before now
ClockTrouble before now Memory = now ≡ before
