-- Source: own.
-- What a check tells of a pair.
use Rattle.std.specs.Prelude.{◌≡◌, ℕ, ◌+◌, List, length, Some, Result, Ok, Err, IfOk, IfErr}
use Rattle.boss_disk.specs.declared.disk.Disk as disk
use Rattle.boss_pair_find.specs.declared.refusal.DurableRefusal.{DurableRefusal}
use Rattle.boss_pair_find.specs.Holds.{IsNewPair}
use Rattle.boss_pair_find.specs.Refusals.{PairCause}
use Rattle.boss_pair_find.specs.Two.{counts}
use Rattle.boss_model.specs.declared.event.Event.{Event}
use Rattle.boss_model.specs.declared.state.Actuator.{Actuator}
use Rattle.boss_model.specs.Run.{replay_all}
use Rattle.boss_model.specs.State.{Persistent}
use Rattle.boss_opening.specs.declared.checking.Checked.{Checked}
use Rattle.boss_opening.specs.declared.checking.Checked.TheVariants.{New, Found}
use Rattle.boss_opening.specs.Opens.{OpenRefuses}
use Rattle.def_disk_pair.specs.Pairs.{StandsFor}
use Rattle.boss_disk_pair.specs.Causes.{Counts}
use Rattle.boss_disk_pair.specs.declared.two_disks.TwoDisks.{TwoDisks}
use Rattle.boss_disk_pair.specs.Reads.{stands_for}
use Rattle.boss_disk_pair.specs.Rests.{counted}

-- So many events were counted, and of the state that they lead to these are the moment of the last change, the number of live leases
-- and that of the reversions under way.
pub record Sums (before : ℕ) (events : List Event) (d : Persistent) (number now leases pending : ℕ) : Type 0 where
  pub number_is : number ≡ counted (before + length events)
  pub now_is : now ≡ d.now
  pub leases_are : leases ≡ length d.leases
  pub pending_are : pending ≡ length d.pending

-- The pair, which is not new, stands for events behind a state.
pub record IsFound (plant : List Actuator) (digest first second : List ℕ) (number now leases pending : ℕ) : Type 0 where
  pub from : Persistent
  pub before : ℕ
  pub events : List Event
  pub stands : StandsFor plant digest from before events first second
  pub lasting : Persistent
  pub leads : replay_all plant from events ≡ Some lasting
  pub sums : Sums before events lasting number now leases pending
  pub not_new : IsNewPair first second → ⊥

abbrev pub ChecksPair : List Actuator → List ℕ → List ℕ → List ℕ → Checked → Type 0
ChecksPair plant digest first second New = IsNewPair first second
ChecksPair plant digest first second (Found number now leases pending) = IsFound plant digest first second number now leases pending

-- a fault is told exactly where a disk's count rose
abbrev pub CheckCause : Counts → Counts → Result Checked DurableRefusal → Type 0
CheckCause before now (Ok checked) = now ≡ before
CheckCause before now (Err why) = PairCause before now why

module _ {D : Type 0} {g : disk.Ghosts D} where
  -- the same of a pair with this state at its first gate
  pub record IsSummed (pair : TwoDisks D g) (plant : List Actuator) (from : Persistent) (number now leases pending : ℕ) : Type 0 where
    pub events : List Event
    pub stands : stands_for pair plant from pair.events events
    pub lasting : Persistent
    pub leads : replay_all plant from events ≡ Some lasting
    pub sums : Sums pair.events events lasting number now leases pending

  abbrev pub ChecksLog : TwoDisks D g → List Actuator → Persistent → Checked → Type 0
  ChecksLog pair plant from New = ⊥
  ChecksLog pair plant from (Found number now leases pending) = IsSummed pair plant from number now leases pending

module _ {D : Type 0} (g : disk.Ghosts D) where
  -- What a check of two disks tells, and that it leaves them as they are.
  pub record IsCheck (plant : List Actuator) (digest : List ℕ) (first second : D) (result : (D × D) × Result Checked DurableRefusal) : Type 0 where
    pub tells : g.tells → IfOk result.1 (ChecksPair plant digest (g.reads first) (g.reads second))
    pub refuses : g.tells → IfErr result.1 (OpenRefuses plant digest (g.reads first) (g.reads second))
    pub first_reads : g.tells → g.reads result.0.0 ≡ g.reads first
    pub second_reads : g.tells → g.reads result.0.1 ≡ g.reads second
    pub first_story : g.tells → g.story result.0.0 ≡ g.story first
    pub second_story : g.tells → g.story result.0.1 ≡ g.story second
    pub cause : CheckCause (counts (g.faults first) (g.faults second)) (counts (g.faults result.0.0) (g.faults result.0.1)) result.1
