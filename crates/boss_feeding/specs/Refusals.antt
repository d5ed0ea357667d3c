-- Source: own.
-- Why no feed is told.
use Rattle.std.specs.Prelude.{◌≡◌, ◌⊎◌, ℕ, List}
use Rattle.boss_feeding.specs.declared.fault.FeedFault.{FeedFault}
use Rattle.boss_feeding.specs.declared.fault.FeedFault.TheVariants.{Refused, WriteFault}
use Rattle.boss_model.specs.declared.state.Actuator.{Actuator}
use Rattle.boss_model.specs.Sound.{IsSoundPersistent}
use Rattle.boss_model.specs.State.{Persistent}
use Rattle.boss_opening.specs.Opens.{OpenRefuses}
use Rattle.boss_pair_find.specs.declared.refusal.DurableRefusal.TheVariants as refusal
use Rattle.boss_pair_find.specs.Refusals.{IsOfBytes}
use Rattle.boss_snapshot.specs.declared.refusal.SnapshotRefusal.TheVariants as reading
use Rattle.boss_snapshot.specs.Refusals.{IsKeptState, Refuses}

-- a pair is refused as an opening refuses it; and of a sink that failed nothing is said of the pair
abbrev pub FeedRefuses : List Actuator → List ℕ → List ℕ → List ℕ → FeedFault → Type 0
FeedRefuses plant digest first second (Refused why) = OpenRefuses plant digest first second why
FeedRefuses plant digest first second WriteFault = Unit {0}

-- a fault for what the pair holds
abbrev pub IsOfPair : FeedFault → Type 0
IsOfPair (Refused why) = IsOfBytes why
IsOfPair WriteFault = ⊥

-- a kept state that is not sound
abbrev pub IsNoBase : List Actuator → List ℕ → List ℕ → ℕ → Type 0
IsNoBase plant digest bytes place =
    (place ≡ 65) × (d : Persistent) × (events : ℕ) × (gate : ℕ) × IsKeptState digest bytes d events gate × (IsSoundPersistent plant d → ⊥)

-- why nothing is told of a disk that holds a kept state
abbrev pub DiskRefuses : List Actuator → List ℕ → List ℕ → FeedFault → Type 0
DiskRefuses plant digest bytes (Refused refusal.NotAJournal) = ⊥
DiskRefuses plant digest bytes (Refused (refusal.Version found)) = Refuses digest bytes (reading.Version found)
DiskRefuses plant digest bytes (Refused (refusal.Catalogue kept found)) = Refuses digest bytes (reading.Catalogue kept found)
DiskRefuses plant digest bytes (Refused (refusal.Damaged place)) = Refuses digest bytes (reading.Damaged place) ⊎ IsNoBase plant digest bytes place
DiskRefuses plant digest bytes (Refused refusal.DiskFault) = Unit {0}
DiskRefuses plant digest bytes (Refused refusal.NoMemory) = Unit {0}
DiskRefuses plant digest bytes WriteFault = Unit {0}
