-- What the words on a value give where its plant may change.
use Rattle.std.proofs.Common.{◌≡◌, ℕ, List, length, subst}
use Rattle.boss_changing.specs.Adoptions.{IsRestored}
use Rattle.boss_changing.specs.declared.preparing.Prepared.{Prepared}
use Rattle.boss_disk.specs.declared.disk.Disk as disk
use Rattle.boss_disk.specs.Window.{IsImage}
use Rattle.boss_disk_pair.proofs.Words as words
use Rattle.boss_disk_pair.specs.Causes.{first_disk, second_disk}
use Rattle.boss_disk_pair.specs.Images.{OpensEither}
use Rattle.boss_durable.specs.declared.durable.Durable.{Durable}
use Rattle.boss_durable.specs.Words.{changes, keeps, lasting}
use Rattle.boss_model.specs.Catalogue.{Catalogue, actuators}
use Rattle.boss_model.specs.declared.event.Event.{Event}
use Rattle.boss_model.specs.declared.state.Actuator.{Actuator}
use Rattle.boss_model.specs.State.{Persistent, State}

module _ {D : Type 0} {g : disk.Ghosts D} where
  -- nothing changes
  pub keeps_changes : (durable : Durable D g) (plant : List Actuator) (digest : List ℕ) (d : Persistent) (before : List Event) → keeps durable before →
      changes durable durable plant digest d
  unfolding keeps changes
  keeps_changes durable plant digest d before held =
      words.rests_changes durable.disks durable.engine.plant (lasting durable) (length before) plant digest d held

  -- what the disks hold in the end, of a value that went by this plant and digest
  pub changes_holds : (old new : Durable D g) (old_plant plant : List Actuator) (old_digest digest : List ℕ) (d : Persistent) → g.tells →
      old.engine.plant ≡ old_plant → old.disks.digest ≡ old_digest → ((disk : D) → g.tells → IsImage (g.story disk).window (g.reads disk)) →
      changes old new plant digest d →
      OpensEither old_plant old_digest (lasting old) plant digest d (g.reads (first_disk new.disks)) (g.reads (second_disk new.disks))
  unfolding changes
  changes_holds old new old_plant plant old_digest digest d told of_plant under stays run =
      subst (λ (q : List Actuator × List ℕ). OpensEither q.0 q.1 (lasting old) plant digest d (g.reads (first_disk new.disks)) (g.reads (second_disk new.disks)))
      (λ i. (of_plant i, under i))
      (words.changes_left old.disks new.disks old.engine.plant (lasting old) plant digest d told (stays new.disks.journal.disk told) (stays new.disks.spare told) run)

  -- where nothing changes
  pub keeps_holds : (durable : Durable D g) (old_plant plant : List Actuator) (old_digest digest : List ℕ) (d : Persistent) → g.tells →
      durable.engine.plant ≡ old_plant → durable.disks.digest ≡ old_digest → ((disk : D) → g.tells → IsImage (g.story disk).window (g.reads disk)) →
      (before : List Event) → keeps durable before →
      OpensEither old_plant old_digest (lasting durable) plant digest d (g.reads (first_disk durable.disks)) (g.reads (second_disk durable.disks))
  keeps_holds durable old_plant plant old_digest digest d told of_plant under stays before held =
      changes_holds durable durable old_plant plant old_digest digest d told of_plant under stays (keeps_changes durable plant digest d before held)

  -- where it changes to an engine that was made for it
  pub prepared_changes : (old new : Durable D g) (catalogue : Catalogue) (d : Persistent) (prepared : Prepared) → IsRestored catalogue d prepared →
      (given digest : List ℕ) → given ≡ digest → changes old new prepared.engine.plant given prepared.engine.state.persistent →
      changes old new (actuators catalogue) digest d
  prepared_changes old new catalogue d prepared is given digest under run =
      subst (λ (q : List Actuator × (List ℕ × State)). changes old new q.0 q.1.0 q.1.1.persistent) (λ i. (is.plant_is i, (under i, is.state_is i))) run
