-- Source: own.
-- What is said of an adoption: when a state is adopted, why it is not, what is left of the value, and when a fault is told.
use Rattle.std.specs.Prelude.{◌≡◌, Bool, true, false, None, Result, Ok, Err}
use Rattle.boss_adopting.specs.Adopts.{Adopts}
use Rattle.boss_adopting.specs.declared.refusal.AdoptRefusal.{AdoptRefusal}
use Rattle.boss_adopting.specs.declared.refusal.AdoptRefusal.TheVariants as refusal
use Rattle.boss_changing.specs.declared.fault.AdoptFault.{AdoptFault}
use Rattle.boss_changing.specs.declared.fault.AdoptFault.TheVariants.{Refused, Stopped, DiskFault, NoMemory}
use Rattle.boss_changing.specs.declared.preparing.Prepared.{Prepared}
use Rattle.boss_disk.specs.declared.disk.Disk as disk
use Rattle.boss_disk_pair.specs.Causes.{Counts, OneRose}
use Rattle.boss_durable.specs.declared.durable.Durable.{Durable}
use Rattle.boss_durable.specs.Words.{lasting}
use Rattle.boss_model.specs.Catalogue.{Catalogue, actuators}
use Rattle.boss_model.specs.Seen.{seen}
use Rattle.boss_model.specs.Settle.{opened}
use Rattle.boss_model.specs.Sound.{IsSound}
use Rattle.boss_model.specs.Plants.{IsPlant}
use Rattle.boss_model.specs.State.{Persistent}
use Rattle.def_bytes.specs.States.{state}
use Rattle.law_adoption.specs.Adopted.{adopted}
use Rattle.law_adoption.specs.MayMove.{in_use, unfit}
use Rattle.law_adoption.specs.Renumber.{renumbered}

-- ---- the state

-- no removed point is in use, and all values fit
abbrev pub MayAdopt : Catalogue → Catalogue → Persistent → Type 0
MayAdopt old new d = (in_use (renumbered old new) d ≡ None) × (unfit (actuators new) (renumbered old new) d ≡ None)

-- the answer to a refusal of the state
abbrev pub of_refusal : AdoptRefusal → AdoptFault
of_refusal refusal.NoMemory = NoMemory
of_refusal why = Refused why

-- Why it is not adopted. A disk fails only where the state could be adopted; an earlier fault and want of memory say nothing of it.
abbrev pub Refuses : Catalogue → Catalogue → Persistent → AdoptFault → Type 0
Refuses old new d (Refused refusal.NoMemory) = ⊥
Refuses old new d (Refused why) = Adopts old new d (Err why)
Refuses old new d Stopped = Unit {0}
Refuses old new d DiskFault = MayAdopt old new d
Refuses old new d NoMemory = Unit {0}

-- a disk had failed in an earlier call
abbrev pub is_of_earlier : AdoptFault → Bool
is_of_earlier Stopped = true
is_of_earlier other = false

-- a fault is told exactly where a disk's count rose
abbrev pub FaultCause : Counts → Counts → AdoptFault → Type 0
FaultCause before now DiskFault = OneRose before now
FaultCause before now other = now ≡ before

-- ---- what is made before a disk is called

-- an engine of the catalogue that is opened at a state, which has a spelling, and the state
pub record IsRestored (new : Catalogue) (d : Persistent) (prepared : Prepared) : Type 0 where
  pub plant_is : prepared.engine.plant ≡ actuators new
  pub state_is : prepared.engine.state ≡ opened (actuators new) d
  pub whole : IsPlant prepared.engine.plant
  pub sound : IsSound prepared.engine.plant prepared.engine.state
  pub kept_is : seen prepared.kept ≡ d
  pub fits : (state 2).fits (seen prepared.kept) ≡ true

-- the same at the adopted state
pub record IsPrepared (old new : Catalogue) (d : Persistent) (prepared : Prepared) : Type 0 where
  pub may : MayAdopt old new d
  pub restored : IsRestored new (adopted (renumbered old new) d) prepared

-- ---- the value

module _ {D : Type 0} {g : disk.Ghosts D} where
  -- what lasts of it, adopted
  abbrev pub adopted_of : Catalogue → Catalogue → Durable D g → Persistent
  adopted_of old new durable = adopted (renumbered old new) (lasting durable)

  -- it, whatever the answer is
  abbrev pub left : Result (Durable D g) (Durable D g × AdoptFault) → Durable D g
  left (Ok durable) = durable
  left (Err told) = told.0

  -- an earlier fault is told
  abbrev pub is_stopped : Result (Durable D g) (Durable D g × AdoptFault) → Bool
  is_stopped (Ok durable) = false
  is_stopped (Err told) = is_of_earlier told.1

  -- it does no more, with its own engine and digest
  pub record HasStopped (was now : Durable D g) : Type 0 where
    pub stopped : now.disks.stopped ≡ true
    pub engine : now.engine ≡ was.engine
    pub digest : now.disks.digest ≡ was.disks.digest

  abbrev pub AdoptCause : Counts → Counts → Result (Durable D g) (Durable D g × AdoptFault) → Type 0
  AdoptCause before now (Ok durable) = now ≡ before
  AdoptCause before now (Err told) = FaultCause before now told.1
