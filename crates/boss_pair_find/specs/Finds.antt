-- Source: own.
-- What is found on a pair of disks.
use Rattle.std.specs.Prelude.{◌≡◌, ℕ, [], false, List, Result, Ok, Err}
use Rattle.boss_disk.specs.declared.disk.Disk as disk
use Rattle.boss_model.specs.declared.state.Actuator.{Actuator}
use Rattle.boss_model.specs.Seen.{seen}
use Rattle.boss_model.specs.Sound.{IsSoundPersistent}
use Rattle.boss_model.specs.State.{Persistent, first_persistent}
use Rattle.boss_pair_find.specs.declared.finding.Found.{Found}
use Rattle.boss_pair_find.specs.declared.finding.Found.TheVariants.{New, Plain, State}
use Rattle.boss_pair_find.specs.declared.refusal.DurableRefusal.{DurableRefusal}
use Rattle.boss_pair_find.specs.Holds.{IsNewPair, IsPlainPair, IsStatePair}
use Rattle.boss_disk_pair.specs.declared.two_disks.TwoDisks.{TwoDisks}
use Rattle.boss_disk_pair.specs.Causes.{first_disk, second_disk}
use Rattle.boss_disk_pair.specs.Reads.{reads_to, is_settled, is_clean}

module _ {D : Type 0} {g : disk.Ghosts D} where
  -- the disks, in their order
  abbrev pub found_first : Found D g → D
  found_first (New first second) = first
  found_first (Plain pair) = first_disk pair
  found_first (State pair base) = first_disk pair

  abbrev pub found_second : Found D g → D
  found_second (New first second) = second
  found_second (Plain pair) = second_disk pair
  found_second (State pair base) = second_disk pair

  -- whatever the answer is
  abbrev pub first_back : Result (Found D g) ((D × D) × DurableRefusal) → D
  first_back (Ok found) = found_first found
  first_back (Err refused) = refused.0.0

  abbrev pub second_back : Result (Found D g) ((D × D) × DurableRefusal) → D
  second_back (Ok found) = found_second found
  second_back (Err refused) = refused.0.1

  -- a pair of this catalogue at its first gate, which was not stopped
  pub record IsAtFirst (digest : List ℕ) (pair : TwoDisks D g) : Type 0 where
    pub catalogue : pair.digest ≡ digest
    pub going : pair.stopped ≡ false
    pub gate : pair.journal.place ≡ pair.journal.first

  -- with no event before it, and no generation
  pub record IsAtStart (digest : List ℕ) (pair : TwoDisks D g) : Type 0 where
    pub first : IsAtFirst digest pair
    pub events : pair.events ≡ 0
    pub generation : pair.generation ≡ 0

  abbrev pub Starts : List ℕ → Found D g → Type 0
  Starts digest (New first second) = Unit {0}
  Starts digest (Plain pair) = IsAtStart digest pair
  Starts digest (State pair base) = IsAtFirst digest pair

  -- nothing that counts; a journal from the first state on; or one from a kept state on, which stands for it where it is sound
  abbrev pub Finds : List ℕ → List ℕ → List ℕ → Found D g → Type 0
  Finds digest one other (New first second) = IsNewPair one other
  Finds digest one other (Plain pair) = IsPlainPair digest one other × ((plant : List Actuator) → reads_to pair plant first_persistent 0 [] first_persistent)
  Finds digest one other (State pair base) = IsStatePair digest (seen base) pair.events pair.journal.place one other
      × ((plant : List Actuator) → IsSoundPersistent plant (seen base) → reads_to pair plant (seen base) pair.events [] (seen base))

  -- where there is a pair, all that was written of it is synced
  abbrev pub IsSettled : Found D g → Type 0
  IsSettled (New first second) = Unit {0}
  IsSettled (Plain pair) = is_settled pair
  IsSettled (State pair base) = is_settled pair

  -- where there is a pair, it is clean; and where there is none, it stands for the first state
  abbrev pub IsClean : List Actuator → Persistent → ℕ → Found D g → Type 0
  IsClean plant d count (New first second) = (d ≡ first_persistent) × (count ≡ 0)
  IsClean plant d count (Plain pair) = is_clean pair plant d count
  IsClean plant d count (State pair base) = is_clean pair plant d count
