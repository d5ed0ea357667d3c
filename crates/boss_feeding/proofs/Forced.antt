-- Which disk is in force, as it was told.
use Rattle.std.proofs.Common.{◌≡◌, ℕ, Bool, true, false, Option, Some, List, [], refl, sym, subst}
use Rattle.boss_disk_pair.specs.declared.forces.Force.{Force}
use Rattle.boss_disk_pair.specs.declared.forces.Force.TheVariants as forces
use Rattle.boss_disk_pair.specs.Forces.{TellsForce}
use Rattle.boss_model.specs.declared.event.Event.{Event}
use Rattle.boss_model.specs.declared.state.Actuator.{Actuator}
use Rattle.boss_model.specs.State.{first_persistent}
use Rattle.boss_pair_find.specs.Holds.{IsNewPair}
use Rattle.boss_snapshot.specs.Refusals.{IsState}
use Rattle.def_disk_pair.specs.Pairs.{HasEvents, IsNew, OfThatInForce, StandsFor}
use Rattle.def_log.specs.declared.kind.DiskKind.{DiskKind}
use Rattle.def_log.specs.declared.kind.DiskKind.TheVariants.{State}
use Rattle.def_log.specs.InForce.{First, Second}
use Rattle.def_log.specs.Kinds.{in_force}

pub told_force : (first second : DiskKind) (force : Option Force) (found which : Force) → force ≡ Some found → found ≡ which → TellsForce first second force →
    TellsForce first second (Some which)
told_force first second force found which is same told = subst (λ f. TellsForce first second (Some f)) same (subst (TellsForce first second) is told)

told_state : (first second : DiskKind) (force : Option Force) (found : Force) (is_second other : Bool) (generation : ℕ) → force ≡ Some found → found ≡ forces.State is_second generation →
    is_second ≡ other → TellsForce first second force → TellsForce first second (Some (forces.State other generation))
told_state first second force found is_second other generation is same order told =
    subst (λ b. TellsForce first second (Some (forces.State b generation))) order (told_force first second force found (forces.State is_second generation) is same told)

pub told_first : (first second : DiskKind) (force : Option Force) (found : Force) (is_second : Bool) (generation : ℕ) → force ≡ Some found → found ≡ forces.State is_second generation →
    is_second ≡ false → TellsForce first second force → (in_force first second ≡ First) × (first ≡ State generation)
told_first first second force found is_second generation is same order told = told_state first second force found is_second false generation is same order told

pub told_second : (first second : DiskKind) (force : Option Force) (found : Force) (is_second : Bool) (generation : ℕ) → force ≡ Some found → found ≡ forces.State is_second generation →
    is_second ≡ true → TellsForce first second force → (in_force first second ≡ Second) × (second ≡ State generation)
told_second first second force found is_second generation is same order told = told_state first second force found is_second true generation is same order told

pub is_state : (kind : DiskKind) (generation : ℕ) → kind ≡ State generation → IsState kind
is_state kind generation is = subst IsState (sym is) tt

-- a new pair stands for the first state and no event
pub new_stands : (plant : List Actuator) (digest first second : List ℕ) → IsNewPair first second → StandsFor plant digest first_persistent 0 [] first second
new_stands plant digest first second new =
    subst (λ i. OfThatInForce (HasEvents plant digest first_persistent 0 [])
    (λ bytes. IsNew bytes × (first_persistent ≡ first_persistent) × (◌≡◌ {A = ℕ} 0 0) × (◌≡◌ {A = List Event} [] [])) i first second) (sym new.0) (new.1, refl, refl, refl)
