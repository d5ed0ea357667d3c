-- Source: own.
-- When a kept state is read, and why it is not.
use Rattle.std.specs.Prelude.{◌≡◌, ◌≢◌, ℕ, ◌+◌, ◌<◌, ◌≤◌, ◌⊎◌, List, length, Result, Ok, Err}
use Rattle.def_log.specs.declared.kind.DiskKind.{DiskKind}
use Rattle.def_log.specs.declared.kind.DiskKind.TheVariants.{Idle, Plain, State, Other}
use Rattle.boss_outside.specs.Counts.{Rose}
use Rattle.boss_model.specs.Limits.{last_number}
use Rattle.boss_model.specs.State.{Persistent}
use Rattle.boss_snapshot.specs.declared.fronts.StateHead.{StateHead}
use Rattle.boss_snapshot.specs.declared.refusal.SnapshotRefusal.{SnapshotRefusal}
use Rattle.boss_snapshot.specs.declared.refusal.SnapshotRefusal.TheVariants.{Version, Catalogue, Damaged, DiskFault, NoMemory}
use Rattle.boss_snapshot.specs.Fronts.{version_of, digest_of, events_of, size_of, text_place, text_of, HasCounts, IsStateHead}
use Rattle.def_log.specs.Versions.{IsKnown}
use Rattle.def_seal.specs.Seals.{seed_of}
use Rattle.boss_snapshot.specs.Spells.{SpellsSealed}

-- this kind is that of a kept state
abbrev pub IsState : DiskKind → Type 0
IsState Idle = ⊥
IsState Plain = ⊥
IsState (State generation) = Unit {0}
IsState Other = ⊥

-- too many events; else a length that leaves no place for a gate; else bytes that spell no state, or have a sum that is wrong
abbrev pub DamagedAt : List ℕ → ℕ → Type 0
DamagedAt bytes place =
    ((place ≡ 49) × (last_number < events_of bytes))
    ⊎ (((place ≡ 57) × (events_of bytes ≤ last_number) × (length bytes ≤ text_place (version_of bytes) + size_of bytes))
    ⊎ ((place ≡ 65) × (events_of bytes ≤ last_number) × (text_place (version_of bytes) + size_of bytes < length bytes)
    × ((d : Persistent) → SpellsSealed (version_of bytes) (seed_of bytes) d (text_of bytes) → ⊥)))

-- the first of these that holds
abbrev pub Refuses : List ℕ → List ℕ → SnapshotRefusal → Type 0
Refuses digest bytes (Version found) = (found ≡ version_of bytes) × (IsKnown found → ⊥)
Refuses digest bytes (Catalogue kept found) =
    IsKnown (version_of bytes) × (kept ≡ digest_of bytes) × (found ≡ digest) × (kept ≢ digest)
Refuses digest bytes (Damaged place) = IsKnown (version_of bytes) × (digest_of bytes ≡ digest) × DamagedAt bytes place
Refuses digest bytes DiskFault = Unit {0}
Refuses digest bytes NoMemory = Unit {0}

-- a fault is told exactly where the disk's count rose
abbrev pub ReadCause : ℕ → ℕ → SnapshotRefusal → Type 0
ReadCause before now (Version found) = now ≡ before
ReadCause before now (Catalogue kept found) = now ≡ before
ReadCause before now (Damaged place) = now ≡ before
ReadCause before now DiskFault = Rose before now
ReadCause before now NoMemory = now ≡ before

-- what the first 65 bytes tell
abbrev pub TellsHead : List ℕ → List ℕ → Result StateHead SnapshotRefusal → Type 0
TellsHead digest bytes (Ok head) = IsStateHead digest bytes head.version head.events head.size head.seed
TellsHead digest bytes (Err refusal) = Refuses digest bytes refusal

-- this state stands on the disk, with so many events before it, and its first gate at this place
pub record IsKeptState (digest bytes : List ℕ) (d : Persistent) (events place : ℕ) : Type 0 where
  pub known : IsKnown (version_of bytes)
  pub same : digest_of bytes ≡ digest
  pub events_are : events ≡ events_of bytes
  pub few : events ≤ last_number
  pub counts : HasCounts bytes
  pub spells : SpellsSealed (version_of bytes) (seed_of bytes) d (text_of bytes)
  pub behind : place ≡ text_place (version_of bytes) + size_of bytes
  pub gate : place < length bytes
