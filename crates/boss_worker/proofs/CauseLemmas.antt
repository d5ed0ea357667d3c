-- What an end that concerns the server says of the clock and of the disk.
use Rattle.std.proofs.Common.{◌≡◌, ℕ, Bool, true, false, List, Some, refl, ◌∙◌, subst}
use Rattle.def_history.specs.declared.entry.Entry.{Entry}
use Rattle.def_history.specs.History.{is_broken}
use Rattle.boss_sessions.specs.declared.end.SessionEnd.{SessionEnd}
use Rattle.boss_sessions.specs.declared.end.SessionEnd.TheVariants as session
use Rattle.boss_sessions.specs.Ends.{is_watch, ClockCause, DiskCause}
use Rattle.boss_watching.specs.declared.end.WatchEnd.{WatchEnd}
use Rattle.boss_watching.specs.declared.end.WatchEnd.TheVariants as watch
use Rattle.boss_watching.specs.Ends.{ClockCause as WatchClock, DiskCause as WatchDisk}
use Rattle.boss_expiry.specs.declared.end.WorkEnd.{WorkEnd}
use Rattle.boss_expiry.specs.declared.end.WorkEnd.TheVariants as work
use Rattle.boss_expiry.specs.Ends.{cut_of, ClockCause as WorkClock, EndCause}
use Rattle.boss_guard.specs.declared.end.GuardEnd.{GuardEnd}
use Rattle.boss_guard.specs.declared.end.GuardEnd.TheVariants as guard
use Rattle.boss_guard.specs.Guarding.{cut_of_guard}
use Rattle.boss_worker.specs.declared.trouble.Trouble.TheVariants.{Nothing, Disk, Clock, Memory}
use Rattle.boss_worker.specs.Troubles.{cut_by, trouble_of, trouble_of_guard, trouble_of_watch, trouble_of_work, ClockTrouble}

pub clock-served : (end : SessionEnd) (before now : ℕ) → ClockCause before now (Some end) → ClockTrouble before now (trouble_of end)
clock-served session.End before now cause = cause
clock-served (session.Watch name from) before now cause = cause
clock-served session.ReadFault before now cause = cause
clock-served session.WriteFault before now cause = cause
clock-served session.ClockFault before now cause = cause
clock-served session.TooLong before now cause = cause
clock-served session.WrongKey before now cause = cause
clock-served session.Limit before now cause = cause
clock-served session.Stopped before now cause = tt
clock-served session.DiskFault before now cause = tt
clock-served session.NoMemory before now cause = cause

pub clock-watched : (end : WatchEnd) (first before now : ℕ) → before ≡ first → WatchClock before now end → ClockTrouble first now (trouble_of_watch end)
clock-watched watch.Idle first before now same cause = cause ∙ same
clock-watched watch.Closed first before now same cause = cause ∙ same
clock-watched watch.WriteFault first before now same cause = cause ∙ same
clock-watched watch.ClockFault first before now same cause = subst (λ n. ClockTrouble n now Clock) same cause
clock-watched watch.Stopped first before now same cause = tt
clock-watched watch.DiskFault first before now same cause = tt
clock-watched watch.NoMemory first before now same cause = cause ∙ same

pub clock-worked : (end : WorkEnd) (before now : ℕ) → WorkClock before now end → ClockTrouble before now (trouble_of_work end)
clock-worked work.Finished before now cause = cause
clock-worked work.Closed before now cause = cause
clock-worked work.ClockFault before now cause = cause
clock-worked work.Stopped before now cause = tt
clock-worked work.DiskFault before now cause = tt

pub broken-served : (end : SessionEnd) (before now : Bool) → DiskCause before now (Some end) → trouble_of end ≡ Disk → now ≡ true
broken-served session.End before now cause is = absurd (let no : Nothing ≡ Disk = is in cc)
broken-served (session.Watch name from) before now cause is = absurd (let no : Nothing ≡ Disk = is in cc)
broken-served session.ReadFault before now cause is = absurd (let no : Nothing ≡ Disk = is in cc)
broken-served session.WriteFault before now cause is = absurd (let no : Nothing ≡ Disk = is in cc)
broken-served session.ClockFault before now cause is = absurd (let no : Clock ≡ Disk = is in cc)
broken-served session.TooLong before now cause is = absurd (let no : Nothing ≡ Disk = is in cc)
broken-served session.WrongKey before now cause is = absurd (let no : Nothing ≡ Disk = is in cc)
broken-served session.Limit before now cause is = absurd (let no : Nothing ≡ Disk = is in cc)
broken-served session.Stopped before now cause is = cause
broken-served session.DiskFault before now cause is = cause
broken-served session.NoMemory before now cause is = absurd (let no : Memory ≡ Disk = is in cc)

pub broken-watched : (end : WatchEnd) (seen : List Entry) → WatchDisk seen end → trouble_of_watch end ≡ Disk → is_broken seen ≡ true
broken-watched watch.Idle seen cause is = absurd (let no : Nothing ≡ Disk = is in cc)
broken-watched watch.Closed seen cause is = absurd (let no : Nothing ≡ Disk = is in cc)
broken-watched watch.WriteFault seen cause is = absurd (let no : Nothing ≡ Disk = is in cc)
broken-watched watch.ClockFault seen cause is = absurd (let no : Clock ≡ Disk = is in cc)
broken-watched watch.Stopped seen cause is = cause
broken-watched watch.DiskFault seen cause is = cause
broken-watched watch.NoMemory seen cause is = absurd (let no : Memory ≡ Disk = is in cc)

pub broken-worked : (end : WorkEnd) (seen : List Entry) (pausing : Type 0) (closed : Bool) (before now : ℕ) → EndCause seen pausing closed before now end → trouble_of_work end ≡ Disk → is_broken seen ≡ true
broken-worked work.Finished seen pausing closed before now cause is = absurd (let no : Nothing ≡ Disk = is in cc)
broken-worked work.Closed seen pausing closed before now cause is = absurd (let no : Nothing ≡ Disk = is in cc)
broken-worked work.ClockFault seen pausing closed before now cause is = absurd (let no : Clock ≡ Disk = is in cc)
broken-worked work.Stopped seen pausing closed before now cause is = cause.0
broken-worked work.DiskFault seen pausing closed before now cause is = cause.0

pub not-watch : (end : SessionEnd) → ((name : List ℕ) (from : ℕ) → end ≡ session.Watch name from → ⊥) → is_watch end ≡ false
not-watch session.End other = refl
not-watch (session.Watch name from) other = absurd (other name from refl)
not-watch session.ReadFault other = refl
not-watch session.WriteFault other = refl
not-watch session.ClockFault other = refl
not-watch session.TooLong other = refl
not-watch session.WrongKey other = refl
not-watch session.Limit other = refl
not-watch session.Stopped other = refl
not-watch session.DiskFault other = refl
not-watch session.NoMemory other = refl

pub cut-worked : (end : WorkEnd) → cut_of end ≡ cut_by (trouble_of_work end)
cut-worked work.Finished = refl
cut-worked work.Closed = refl
cut-worked work.ClockFault = refl
cut-worked work.Stopped = refl
cut-worked work.DiskFault = refl

pub cut-guarded : (end : GuardEnd) → cut_of_guard end ≡ cut_by (trouble_of_guard end)
cut-guarded (guard.Worked end) = cut-worked end
cut-guarded guard.NoMemory = refl
