-- Source: own.
-- What follows another history: one event of it more, or a state of it.
use Rattle.std.specs.Prelude.{◌≡◌, ℕ, ◌+◌, Bool, true, false, List, [], ◌∷◌, ◌++◌, length, min, Some, None}
use Rattle.boss_disk.specs.declared.disk.Disk as disk
use Rattle.boss_disk_pair.specs.Causes.{Counts, OneRose}
use Rattle.boss_disk_pair.specs.Rests.{counted}
use Rattle.boss_model.specs.Acts.{replay}
use Rattle.boss_model.specs.declared.event.Event.{Event}
use Rattle.boss_model.specs.Limits.{last_number}
use Rattle.boss_model.specs.Sound.{IsSoundPersistent}
use Rattle.boss_model.specs.State.{Persistent}
use Rattle.boss_durable.specs.declared.durable.Durable.{Durable}
use Rattle.boss_durable.specs.declared.followed.Followed.{Followed}
use Rattle.boss_durable.specs.declared.followed.Followed.TheVariants.{Done, NotEffective, NotSound, Stopped, DiskFault, NoMemory}
use Rattle.boss_durable.specs.Redone.{opened_at}
use Rattle.boss_durable.specs.Words.{lasting, keeps}

-- a fault is told exactly where a disk's count rose
abbrev pub FollowedCause : Counts → Counts → Followed → Type 0
FollowedCause before now DiskFault = OneRose before now
FollowedCause before now other = now ≡ before

-- whether a disk failed in an earlier call, and whether one has failed by now
abbrev pub was_stopped : Followed → Bool
was_stopped Stopped = true
was_stopped other = false

abbrev pub has_failed : Followed → Bool
has_failed Stopped = true
has_failed DiskFault = true
has_failed other = false

-- what lasts after a call with this answer, of what lasted before and what was to come; and what may last, where a disk failed
abbrev pub lasts_after : Followed → Persistent → Persistent → Persistent
lasts_after Done before to = to
lasts_after other before to = before

abbrev pub may_last : Followed → Persistent → Persistent → Persistent
may_last Done before to = to
may_last DiskFault before to = to
may_last other before to = before

-- how many events the disks count then, where none failed: one more after an event that was done, up to the last number
abbrev pub CountsFollowed : ℕ → ℕ → Followed → Type 0
CountsFollowed before now Done = now ≡ min (before + 1) last_number
CountsFollowed before now DiskFault = Unit {0}
CountsFollowed before now other = now ≡ before

module _ {D : Type 0} {g : disk.Ghosts D} where
  -- Nothing has changed, but that a log may have begun anew.
  pub record IsUnmoved (old new : Durable D g) : Type 0 where
    pub engine : new.engine ≡ old.engine
    pub stays : (before : List Event) → keeps old before → keeps new before

  -- The engine has done the event, and the disks have it.
  pub record HasFollowed (old new : Durable D g) (e : Event) : Type 0 where
    pub leads : replay old.engine.plant e (lasting old) ≡ Some (lasting new)
    pub opens : new.engine ≡ opened_at old.engine.plant (lasting new)
    pub gained : (before : List Event) → keeps old before → keeps new (before ++ e ∷ [])

  -- what became of an event that was to be followed
  abbrev pub Follows : Durable D g → Durable D g → Event → Followed → Type 0
  Follows old new e Done = HasFollowed old new e
  Follows old new e NotEffective = (replay old.engine.plant e (lasting old) ≡ None) × IsUnmoved old new
  Follows old new e NotSound = ⊥
  Follows old new e Stopped = new ≡ old
  Follows old new e DiskFault = Unit {0}
  Follows old new e NoMemory = IsUnmoved old new

  -- The engine is the one that is opened at the state, and the disks have the state, after so many events.
  pub record HasTaken (old new : Durable D g) (e : Persistent) (events : ℕ) : Type 0 where
    pub sound : IsSoundPersistent old.engine.plant e
    pub opens : new.engine ≡ opened_at old.engine.plant e
    pub gained : (before any : List Event) → keeps old before → counted (length any) ≡ events → keeps new any

  -- what became of a state that was to be taken, after so many events
  abbrev pub Takes : Durable D g → Durable D g → Persistent → ℕ → Followed → Type 0
  Takes old new e events Done = HasTaken old new e events
  Takes old new e events NotEffective = ⊥
  Takes old new e events NotSound = (¬ IsSoundPersistent old.engine.plant e) × (new ≡ old)
  Takes old new e events Stopped = new ≡ old
  Takes old new e events DiskFault = IsSoundPersistent old.engine.plant e × (new.engine ≡ old.engine)
  Takes old new e events NoMemory = new ≡ old
