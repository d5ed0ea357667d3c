-- Source: own.
-- What is said of a pair whose log is read, and whose events are done again.
use Rattle.std.specs.Prelude.{◌≡◌, ℕ, ◌+◌, List, [], ◌++◌, length, Some, Result, Ok, Err, OnOk}
use Rattle.boss_disk.specs.declared.disk.Disk as disk
use Rattle.boss_pair_find.specs.declared.refusal.DurableRefusal.{DurableRefusal}
use Rattle.boss_pair_find.specs.declared.refusal.DurableRefusal.TheVariants.{NotAJournal, Version, Catalogue, Damaged, DiskFault, NoMemory}
use Rattle.boss_model.specs.declared.event.Event.{Event}
use Rattle.boss_model.specs.declared.state.Actuator.{Actuator}
use Rattle.boss_model.specs.Run.{replay_all}
use Rattle.boss_model.specs.State.{Persistent}
use Rattle.boss_disk_pair.specs.declared.two_disks.TwoDisks.{TwoDisks}
use Rattle.boss_disk_pair.specs.Causes.{first_disk, second_disk}
use Rattle.boss_disk_pair.specs.Reads.{ends_at, is_damaged_at, reads_to, stands_for}
use Rattle.boss_disk_pair.specs.Rests.{counted, passes, rests}
use Rattle.boss_opening.specs.UnderWay.{MayComeTo}

-- what a log is refused for as its records are read
abbrev pub IsOfLog : DurableRefusal → Type 0
IsOfLog NotAJournal = ⊥
IsOfLog (Version found) = ⊥
IsOfLog (Catalogue kept found) = ⊥
IsOfLog (Damaged place) = Unit {0}
IsOfLog DiskFault = Unit {0}
IsOfLog NoMemory = Unit {0}

-- what says nothing of the bytes
abbrev pub IsOfNoBytes : DurableRefusal → Type 0
IsOfNoBytes NotAJournal = ⊥
IsOfNoBytes (Version found) = ⊥
IsOfNoBytes (Catalogue kept found) = ⊥
IsOfNoBytes (Damaged place) = ⊥
IsOfNoBytes DiskFault = Unit {0}
IsOfNoBytes NoMemory = Unit {0}

module _ {D : Type 0} {g : disk.Ghosts D} where
  -- The one in force may have been read on in; all else of the pair is as it was.
  pub record IsReadOn (old new : TwoDisks D g) : Type 0 where
    pub reads : g.tells → g.reads new.journal.disk ≡ g.reads old.journal.disk
    pub windows : g.tells → g.story new.journal.disk ≡ g.story old.journal.disk
    pub spare : new.spare ≡ old.spare
    pub order : new.second ≡ old.second
    pub version : new.journal.version ≡ old.journal.version
    pub generation : new.generation ≡ old.generation
    pub events : new.events ≡ old.events
    pub digest : new.digest ≡ old.digest

  -- So many events more were read, which lead from the one state to the other.
  pub record ReadsOn (old new : TwoDisks D g) (plant : List Actuator) (d : Persistent) (count : ℕ) (to : Persistent) : Type 0 where
    pub batch : List Event
    pub many : length batch ≡ count
    pub leads : replay_all plant d batch ≡ Some to
    pub goes : (from : Persistent) (before : ℕ) (events : List Event) → reads_to old plant from before events d → reads_to new plant from before (events ++ batch) to

  -- The log was read to its end.
  pub record IsAtLast (old new : TwoDisks D g) (plant : List Actuator) (d : Persistent) : Type 0 where
    pub ends : (from : Persistent) (before : ℕ) (events : List Event) → reads_to old plant from before events d → ends_at new plant from before events d
    pub stands : (from : Persistent) (before : ℕ) (events : List Event) → reads_to old plant from before events d → stands_for new plant from before events

  -- A gate is damaged at this place.
  abbrev pub IsDamaged : TwoDisks D g → TwoDisks D g → List Actuator → Persistent → DurableRefusal → Type 0
  IsDamaged old new plant d why = (place : ℕ) → why ≡ Damaged place →
      (from : Persistent) (before : ℕ) (events : List Event) → reads_to old plant from before events d → is_damaged_at new plant place

  -- From the state that it begins with the log was read to its end: so many events, which lead to this state.
  pub record ReadWhole (old new : TwoDisks D g) (plant : List Actuator) (d : Persistent) (count : ℕ) (to : Persistent) : Type 0 where
    pub events : List Event
    pub many : length events ≡ count
    pub leads : replay_all plant d events ≡ Some to
    pub ends : (before : ℕ) → reads_to old plant d before [] d → ends_at new plant d before events to
    pub stands : (before : ℕ) → reads_to old plant d before [] d → stands_for new plant d before events

  -- The pair rests at what its log leads to, and the pair that it was stands for the events of that.
  pub record GoesOn (old new : TwoDisks D g) (plant : List Actuator) (from to : Persistent) : Type 0 where
    pub events : List Event
    pub leads : replay_all plant from events ≡ Some to
    pub stands : stands_for old plant from old.events events
    pub number : new.events ≡ counted (old.events + length events)
    pub rest : rests new plant to new.events

  -- While the last gate of a clean pair was shut, each image opened to what the pair stood for, or to what the record under way makes
  -- of that; and once it is shut the pair comes to what it stood for.
  pub record ShutsCleanly (old new : TwoDisks D g) (plant : List Actuator) (d : Persistent) (count : ℕ) (now : Persistent) (result : Result Unit DurableRefusal) : Type 0 where
    pub after : Persistent
    pub may : MayComeTo plant old.digest d count after (g.reads (first_disk old)) (g.reads (second_disk old))
    pub runs : passes old new plant d after
    pub same : OnOk result (d ≡ now)
