-- Source: own.
-- How a call begins, and what its beginning tells of the disks.
use Rattle.std.specs.Prelude.{◌≡◌, Bool, true, false, ℕ, List, is_none}
use Rattle.std.specs.List.{AllByRecursion}
use Rattle.boss_model.specs.declared.command.Command.{Command}
use Rattle.boss_model.specs.declared.command.Command.TheVariants as command
use Rattle.boss_model.specs.Processes.{process_named}
use Rattle.boss_model.specs.State.{State}
use Rattle.boss_disk_pair.specs.Causes.{Counts, OneRose}
use Rattle.boss_durable.specs.declared.beginning.Begun.{Begun}
use Rattle.boss_durable.specs.declared.beginning.Begun.TheVariants.{Ready, NoMemory, DiskFault}

-- a fault is told exactly where a disk's count rose
abbrev pub BegunCause : Counts → Counts → Begun → Type 0
BegunCause before now Ready = now ≡ before
BegunCause before now NoMemory = now ≡ before
BegunCause before now DiskFault = OneRose before now

abbrev pub is_fault : Begun → Bool
is_fault Ready = false
is_fault NoMemory = false
is_fault DiskFault = true

-- a submit, an attach of a new name and notices may want memory
abbrev pub may_want : State → Command → Bool
may_want s (command.Attach name) = is_none (process_named s.persistent.processes name)
may_want s (command.Submit writes policy seq) = true
may_want s (command.Notices name from most) = true
may_want s other = false

-- no command of these may want memory
abbrev pub WantNone : State → List (Command × ℕ) → Type 0
WantNone s calls = AllByRecursion (λ call. may_want s call.0 ≡ false) calls
