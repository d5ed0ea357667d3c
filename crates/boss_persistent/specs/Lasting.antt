-- Source: own.
use Rattle.std.specs.Prelude.{◌≡◌, ℕ, ◌+◌, ◌≤◌, List, [], length, map, vec_capacity}
use Rattle.boss_model.specs.declared.command.Policy.{Policy}
use Rattle.boss_model.specs.declared.command.Setting.{Setting}
use Rattle.boss_model.specs.declared.state.Actuator.{Actuator}
use Rattle.boss_model.specs.declared.state.Lease.{Lease}
use Rattle.boss_model.specs.Limits.{done_kept, most_writes}
use Rattle.boss_model.specs.Sound.{IsSoundPersistent}
use Rattle.boss_model.specs.State.{Persistent}
use Rattle.boss_model.specs.Submit.{begun, granted}
use Rattle.boss_stages.specs.Stages.{Tracked}
use Rattle.boss_booking.specs.Books.{StandsFor}
use Rattle.boss_persistent.specs.declared.lasting.Lasting.{Lasting}

-- what is kept stands for it
abbrev pub persistent_of : Lasting → Persistent
persistent_of l = record {
  now = l.holdings.now;
  next = l.next_txn;
  leases = l.holdings.leases;
  pending = l.holdings.pending;
  txns = map (λ kept. kept.transaction) l.stages.kept;
  done = l.stages.done;
  processes = l.processes;
}

-- sound for a plant of as many points
abbrev pub IsSoundOfSome : Lasting → Type 0
IsSoundOfSome l = (plant : List Actuator) × (length plant ≡ l.holdings.points) × IsSoundPersistent plant (persistent_of l)

-- the records know the reversions under way, and there is room for the slots of a transaction, and for the records of those that
-- are done and of one more a point
pub record IsKept (l : Lasting) : Type 0 where
  pub stands : StandsFor l.stages (persistent_of l)
  pub slots : most_writes ≤ vec_capacity l.slots
  pub records : l.holdings.points + done_kept ≤ l.stages.room

-- the record and the leases are those of a submit of these writes, at moment n
pub record IsSubmit (n : ℕ) (kept : Tracked) (new : List Lease) (d : Persistent) (owner : ℕ) (policy : Policy) (writes : List Setting) : Type 0 where
  pub some_write : 1 ≤ length writes
  pub recorded : kept.transaction ≡ begun owner policy d.next writes
  pub settled : kept.reverting ≡ []
  pub leased : new ≡ granted owner policy d.next n writes

abbrev pub IsSomeSubmit : ℕ → Tracked → List Lease → Persistent → Type 0
IsSomeSubmit n kept new d = (owner : ℕ) × (policy : Policy) × (writes : List Setting) × IsSubmit n kept new d owner policy writes
