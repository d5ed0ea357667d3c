-- Calls of an engine with its disks, as what happens to the two disks.
use Rattle.std.proofs.Common.{◌≡◌, ℕ, List, ◌∙◌, subst}
use Rattle.boss_disk.specs.declared.disk.Disk as disk
use Rattle.boss_disk.specs.Legs.{Legs, LeaveBoth}
use Rattle.boss_disk_pair.specs.Images.{OpensToOne}
use Rattle.boss_disk_pair.specs.Rests as pair
use Rattle.boss_disk_pair.specs.Rests.{stories}
use Rattle.boss_durable.specs.declared.durable.Durable.{Durable}
use Rattle.boss_durable.specs.Words.{passes, passes_in_plant}
use Rattle.boss_model.specs.declared.state.Actuator.{Actuator}
use Rattle.boss_model.specs.State.{Persistent, State}
use Rattle.boss_shared.specs.Walking.{Walks}
use Rattle.boss_shared.proofs.Walks.{walks_lead}
use Rattle.def_history.specs.declared.entry.Entry.{Entry}

module _ {D : Type 0} {g : disk.Ghosts D} (plant : List Actuator) (digest : List ℕ) (told : g.tells) where
  -- what is under this plant and digest stays there
  goes : (old new : Durable D g) (a b : Persistent) → (old.engine.plant ≡ plant) × (old.disks.digest ≡ digest) → passes_in_plant old new a b →
      ((new.engine.plant ≡ plant) × (new.disks.digest ≡ digest)) × Legs (LeaveBoth (OpensToOne plant digest a b)) (stories old.disks) (stories new.disks)
  unfolding passes pair.passes
  goes old new a b under run =
      let moved = run.1 told in (
        (run.0 ∙ under.0, moved.0 ∙ under.1),
        subst (λ (q : List Actuator × List ℕ). Legs (LeaveBoth (OpensToOne q.0 q.1 a b)) (stories old.disks) (stories new.disks)) (λ i. (under.0 i, under.1 i)) moved.1,
      )

  pub walks_stories : (s : State) (old new : Durable D g) (made : List Entry) → old.engine.plant ≡ plant → old.disks.digest ≡ digest →
      Walks plant passes_in_plant s old made new →
      Walks plant (λ from to a b. Legs (LeaveBoth (OpensToOne plant digest a b)) from to) s (stories old.disks) made (stories new.disks)
  walks_stories s old new made same under walks =
      walks_lead plant passes_in_plant (λ from to a b. Legs (LeaveBoth (OpensToOne plant digest a b)) from to) (λ durable. stories durable.disks)
      (λ durable. (durable.engine.plant ≡ plant) × (durable.disks.digest ≡ digest)) goes s old made new (same, under) walks
