-- Source: own.
-- What is said of a pair, and of a call of it, where its disks tell what they hold. Nothing above looks into these words.
use Rattle.std.specs.Prelude.{◌≡◌, ◌⊎◌, ℕ, ◌+◌, ◌^◌, ◌<◌, min, Bool, true, false, List, length}
use Rattle.boss_model.specs.declared.event.Event.{Event}
use Rattle.boss_model.specs.declared.state.Actuator.{Actuator}
use Rattle.boss_model.specs.Limits.{last_number}
use Rattle.boss_model.specs.State.{Persistent}
use Rattle.boss_disk.specs.declared.disk.Disk as disk
use Rattle.boss_disk.specs.Legs.{Two, Legs, LeaveBoth}
use Rattle.boss_disk.specs.Window.{Window, settled}
use Rattle.boss_journal.specs.Places.{IsAtRest}
use Rattle.def_log.specs.declared.kind.DiskKind.TheVariants.{Plain, State}
use Rattle.def_log.specs.InForce.{InForce, First, Second}
use Rattle.def_log.specs.Kinds.{kind_of, in_force}
use Rattle.def_seal.specs.Seals.{has_sums, seed_of}
use Rattle.def_disk_pair.specs.Contents.{joined, records_of, IsCourse}
use Rattle.boss_disk_pair.specs.declared.two_disks.TwoDisks.{TwoDisks}
use Rattle.boss_disk_pair.specs.Images.{OpensEither, OpensToOne}
use Rattle.boss_disk_pair.specs.Orders.{InOrder, stories_of}

-- the number of events stands still at its greatest
abbrev pub counted : ℕ → ℕ
counted count = min count last_number

-- the disk in force, by whether it is the second
abbrev pub forced : Bool → InForce
forced false = First
forced true = Second

abbrev pub IsInForce : Bool → List ℕ → List ℕ → Type 0
IsInForce second one other = in_force (kind_of one) (kind_of other) ≡ forced second

-- Of a pair with this digest, seed, version, generation and number of events: behind a front stand records that lead to the state,
-- and a gate that is 0, at the place; all that was written is synced; the disk is in force, and the pair is not stopped.
pub record Resting (plant : List Actuator) (digest seed : List ℕ) (version : ℕ) (second : Bool) (generation number place : ℕ) (reads : List ℕ) (window : Window)
    (other : List ℕ) (beside : Window) (stopped : Bool) (d : Persistent) (count : ℕ) : Type 0 where
  pub front : List ℕ
  pub from : Persistent
  pub before : ℕ
  pub batches : List (List Event)
  pub course : IsCourse plant digest version front from before batches d
  pub seeded : has_sums version ≡ true → seed ≡ seed_of front
  pub log : IsAtRest front (records_of version front batches) place reads window
  pub synced : beside ≡ settled other
  pub going : stopped ≡ false
  pub whole : length digest ≡ 32
  pub kind : (kind_of reads ≡ Plain) ⊎ ((kind_of reads ≡ State generation) × (generation < 2 ^ 64))
  pub is_in_force : InOrder (IsInForce second) second reads other
  pub events : number ≡ counted (before + length (joined batches))
  pub counts : counted count ≡ number

module _ {D : Type 0} {g : disk.Ghosts D} where
  -- The pair is at rest: it stands for this state, after so many events as far as they are counted, and can be added to.
  unfoldable pub rests : TwoDisks D g → List Actuator → Persistent → ℕ → Type 0
  rests pair plant d count = g.tells → Resting plant pair.digest pair.seed pair.journal.version pair.second pair.generation pair.events pair.journal.place
      (g.reads pair.journal.disk) (g.story pair.journal.disk).window (g.reads pair.spare) (g.story pair.spare).window pair.stopped d count

  -- Each image that a crash may leave of the pair is clean, and opens to one of these states.
  unfoldable pub leaves : TwoDisks D g → List Actuator → Persistent → Persistent → Type 0
  leaves pair plant a b = g.tells → InOrder (LeaveBoth (OpensToOne plant pair.digest a b)) pair.second (g.story pair.journal.disk).window (g.story pair.spare).window

  -- the two stories, in the disks' order
  abbrev pub stories : TwoDisks D g → Two
  stories pair = stories_of pair.second (g.story pair.journal.disk) (g.story pair.spare)

  -- From the one moment to the other, while one disk moves at a time, each image is clean and opens to one of these states.
  unfoldable pub passes : TwoDisks D g → TwoDisks D g → List Actuator → Persistent → Persistent → Type 0
  passes old new plant a b = g.tells → (new.digest ≡ old.digest) × Legs (LeaveBoth (OpensToOne plant old.digest a b)) (stories old) (stories new)

  -- The same, to one state under the plant and digest of before, or to another under a new plant and digest.
  unfoldable pub changes : TwoDisks D g → TwoDisks D g → List Actuator → Persistent → List Actuator → List ℕ → Persistent → Type 0
  changes old new plant a new_plant new_digest b = g.tells → Legs (LeaveBoth (OpensEither plant old.digest a new_plant new_digest b)) (stories old) (stories new)
