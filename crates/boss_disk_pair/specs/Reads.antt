-- Source: own.
-- What is said of a pair whose log is read, where its disks tell what they hold.
use Rattle.std.specs.Prelude.{◌≡◌, ◌≢◌, ◌⊎◌, ℕ, ◌+◌, ◌^◌, ◌<◌, ◌≤◌, Bool, true, List, [], ◌∷◌, ◌++◌, length}
use Rattle.boss_model.specs.declared.event.Event.{Event}
use Rattle.boss_model.specs.declared.state.Actuator.{Actuator}
use Rattle.boss_model.specs.State.{Persistent}
use Rattle.def_bytes.specs.Batches.{batch_text}
use Rattle.boss_disk.specs.declared.disk.Disk as disk
use Rattle.boss_disk.specs.Window.{settled}
use Rattle.boss_journal.specs.declared.reading.NextRecord.{NextRecord}
use Rattle.boss_journal.specs.declared.reading.NextRecord.TheVariants.{Bytes, Finish, Damaged, DiskFault}
use Rattle.boss_journal.specs.Places.{IsAt, IsAtEnd}
use Rattle.def_log.specs.declared.kind.DiskKind.TheVariants.{Plain, State}
use Rattle.def_log.specs.Kinds.{kind_of}
use Rattle.def_log.specs.Log.{framed}
use Rattle.def_seal.specs.Seals.{has_sums, seed_of, sealed}
use Rattle.def_disk_pair.specs.Contents.{joined, records_of, IsNext, IsCourse}
use Rattle.def_disk_pair.specs.Pairs.{StandsFor, OpensCleanly, DamagedAt}
use Rattle.boss_disk_pair.specs.declared.two_disks.TwoDisks.{TwoDisks}
use Rattle.boss_disk_pair.specs.Orders.{InOrder}
use Rattle.boss_disk_pair.specs.Rests.{counted, IsInForce}

-- Behind a front stand records of these events, which lead from the front's state to another; and the disk is in force, of a pair
-- with this seed, generation and number of events.
pub record Coming (plant : List Actuator) (digest seed : List ℕ) (version : ℕ) (second : Bool) (generation number : ℕ) (reads other : List ℕ)
    (from : Persistent) (before : ℕ) (events : List Event) (d : Persistent) : Type 0 where
  pub front : List ℕ
  pub batches : List (List Event)
  pub course : IsCourse plant digest version front from before batches d
  pub seeded : has_sums version ≡ true → seed ≡ seed_of front
  pub are : events ≡ joined batches
  pub whole : length digest ≡ 32
  pub kind : (kind_of reads ≡ Plain) ⊎ ((kind_of reads ≡ State generation) × (generation < 2 ^ 64))
  pub is_in_force : InOrder (IsInForce second) second reads other
  pub counts : number ≡ counted before

-- at a gate behind them
pub record AtGate (plant : List Actuator) (digest seed : List ℕ) (version : ℕ) (second : Bool) (generation number : ℕ) (reads other : List ℕ) (place : ℕ)
    (from : Persistent) (before : ℕ) (events : List Event) (d : Persistent) : Type 0 where
  pub coming : Coming plant digest seed version second generation number reads other from before events d
  pub at : IsAt coming.front (records_of version coming.front coming.batches) place reads

-- at a gate that is shut
pub record AtEnd (plant : List Actuator) (digest seed : List ℕ) (version : ℕ) (second : Bool) (generation number : ℕ) (reads other : List ℕ) (place : ℕ)
    (from : Persistent) (before : ℕ) (events : List Event) (d : Persistent) : Type 0 where
  pub coming : Coming plant digest seed version second generation number reads other from before events d
  pub at : IsAtEnd coming.front (records_of version coming.front coming.batches) place reads

module _ {D : Type 0} {g : disk.Ghosts D} where
  -- The pair stands for this state, so many events before it and, as far as it was read, these since, which lead to a state.
  unfoldable pub reads_to : TwoDisks D g → List Actuator → Persistent → ℕ → List Event → Persistent → Type 0
  reads_to pair plant from before events d = g.tells → AtGate plant pair.digest pair.seed pair.journal.version pair.second pair.generation pair.events
      (g.reads pair.journal.disk) (g.reads pair.spare) pair.journal.place from before events d

  -- There are no more.
  unfoldable pub ends_at : TwoDisks D g → List Actuator → Persistent → ℕ → List Event → Persistent → Type 0
  ends_at pair plant from before events d = g.tells → AtEnd plant pair.digest pair.seed pair.journal.version pair.second pair.generation pair.events
      (g.reads pair.journal.disk) (g.reads pair.spare) pair.journal.place from before events d

  -- what a read gives of both disks, in their order
  unfoldable pub stands_for : TwoDisks D g → List Actuator → Persistent → ℕ → List Event → Type 0
  stands_for pair plant from before events = g.tells
      → InOrder (StandsFor plant pair.digest from before events) pair.second (g.reads pair.journal.disk) (g.reads pair.spare)

  unfoldable pub is_damaged_at : TwoDisks D g → List Actuator → ℕ → Type 0
  is_damaged_at pair plant place = g.tells → InOrder (DamagedAt plant pair.digest place) pair.second (g.reads pair.journal.disk) (g.reads pair.spare)

  -- it is clean
  unfoldable pub is_clean : TwoDisks D g → List Actuator → Persistent → ℕ → Type 0
  is_clean pair plant d count = g.tells
      → InOrder (OpensCleanly plant pair.digest d count) pair.second (g.reads pair.journal.disk) (g.reads pair.spare)

  -- all that was written is synced
  unfoldable pub is_settled : TwoDisks D g → Type 0
  is_settled pair = g.tells → ((g.story pair.journal.disk).window ≡ settled (g.reads pair.journal.disk)) × ((g.story pair.spare).window ≡ settled (g.reads pair.spare))

-- What reading on passes: the place moves behind a record that is told, whose bytes may have a sum behind them, and the place that
-- is told is the gate's.
abbrev pub Passes : ℕ → ℕ → List ℕ → NextRecord → Type 0
Passes before now bytes (Bytes at) = (at ≡ before) × (before + length bytes + 5 ≤ now)
Passes before now bytes Finish = (now ≡ before) × (bytes ≡ [])
Passes before now bytes (Damaged at) = at ≡ before
Passes before now bytes DiskFault = now ≡ before

-- no record that leads on has these bytes
abbrev pub NoneLeads : List Actuator → ℕ → Persistent → List ℕ → Type 0
NoneLeads plant version d bytes = (batch : List Event) (after : Persistent) → bytes ≡ batch_text batch → IsNext plant version d batch after → ⊥

-- The gate at this place is neither 0 nor 1, and behind it stands a whole record that leads on, with a next gate 0.
pub record IsUnderWay (plant : List Actuator) (version : ℕ) (seed : List ℕ) (place : ℕ) (reads : List ℕ) (d after : Persistent) : Type 0 where
  pub front : List ℕ
  pub placed : place ≡ length front
  pub gate : ℕ
  pub tail : List ℕ
  pub is : reads ≡ front ++ gate ∷ tail
  pub not_zero : gate ≢ 0
  pub not_one : gate ≢ 1
  pub batch : List Event
  pub more : List ℕ
  pub next : IsNext plant version d batch after
  pub behind : tail ≡ framed (sealed version seed place (batch_text batch)) ++ 0 ∷ more

-- while the last gate is shut the state may be another only where a record was under way
abbrev pub MayCome : List Actuator → ℕ → List ℕ → ℕ → List ℕ → Persistent → Persistent → Type 0
MayCome plant version seed place reads d after = (after ≡ d) ⊎ IsUnderWay plant version seed place reads d after
