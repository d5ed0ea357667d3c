-- Source: own.
-- What is said of an engine with its disks, and of a call of it, where the disks tell what they hold. Nothing above looks into
-- these words.
use Rattle.std.specs.Prelude.{◌≡◌, ℕ, ◌+◌, ◌-◌, List, length}
use Rattle.boss_disk.specs.declared.disk.Disk as disk
use Rattle.def_history.specs.declared.entry.Entry.{Entry}
use Rattle.boss_model.specs.declared.event.Event.{Event}
use Rattle.boss_model.specs.declared.state.Actuator.{Actuator}
use Rattle.boss_model.specs.State.{Persistent}
use Rattle.boss_shared.specs.Keeping.{Keeps}
use Rattle.boss_shared.specs.Walking as walking
use Rattle.boss_disk_pair.specs.Causes.{counts_of}
use Rattle.boss_disk_pair.specs.Rests as pair
use Rattle.boss_durable.specs.declared.durable.Durable.{Durable}

module _ {D : Type 0} {g : disk.Ghosts D} where
  abbrev pub lasting : Durable D g → Persistent
  lasting durable = durable.engine.state.persistent

  -- The disks rest at what lasts of the engine, after as many events as there are in this list.
  unfoldable pub keeps : Durable D g → List Event → Type 0
  keeps durable events = pair.rests durable.disks durable.engine.plant (lasting durable) (length events)

  -- Each image that a crash may leave of the disks is clean, and opens to one of these states.
  unfoldable pub leaves : Durable D g → Persistent → Persistent → Type 0
  leaves durable a b = pair.leaves durable.disks durable.engine.plant a b

  -- From the one moment to the other, while one disk moves at a time, each image is clean and opens to one of these states.
  unfoldable pub passes : Durable D g → Durable D g → Persistent → Persistent → Type 0
  passes old new a b = pair.passes old.disks new.disks old.engine.plant a b

  -- The same, of an engine whose plant stays.
  abbrev pub passes_in_plant : Durable D g → Durable D g → Persistent → Persistent → Type 0
  passes_in_plant old new a b = (new.engine.plant ≡ old.engine.plant) × passes old new a b

  -- The same as the first where the plant changes too: each image opens to what lasted, under the plant and digest of before, or to
  -- another state under a new plant and digest.
  unfoldable pub changes : Durable D g → Durable D g → List Actuator → List ℕ → Persistent → Type 0
  changes old new plant digest b = pair.changes old.disks new.disks old.engine.plant (lasting old) plant digest b

  -- how many calls of the two disks have failed
  abbrev pub faults : Durable D g → ℕ
  faults durable = (counts_of durable.disks).first + (counts_of durable.disks).second

  -- the bytes of the log, from its first gate to the one behind its last record
  abbrev pub log : Durable D g → ℕ
  log durable = durable.disks.journal.place - durable.disks.journal.first

  -- one call that made these entries
  abbrev pub Does : Durable D g → Durable D g → List Entry → Type 0
  Does old new made = Keeps (λ durable. durable.engine.plant) (λ durable. durable.engine.state) (λ durable. durable.disks.stopped) faults leaves passes_in_plant keeps old new made

  -- while it ran, each image opened to what lasted before it, or to what all commands that were tried make of that
  abbrev pub RunsThrough : Durable D g → Durable D g → List Entry → Type 0
  RunsThrough old new made = (before : List Event) → keeps old before → walking.RunsThrough old.engine.plant passes old.engine.state old made new
