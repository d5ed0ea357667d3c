-- What a check told, by its answer.
use Rattle.std.proofs.Common.{◌≡◌, ℕ, List, Result, Ok, IfOk, subst}
use Rattle.boss_model.specs.declared.state.Actuator.{Actuator}
use Rattle.boss_disk_pair.specs.Causes.{Counts}
use Rattle.boss_pair_find.specs.declared.refusal.DurableRefusal.{DurableRefusal}
use Rattle.boss_pair_find.specs.Holds.{IsNewPair}
use Rattle.boss_opening.specs.declared.checking.Checked.{Checked}
use Rattle.boss_opening.specs.declared.checking.Checked.TheVariants.{New, Found}
use Rattle.boss_opening.specs.Checks.{CheckCause, ChecksPair, IsFound}

module _ (answer : Result Checked DurableRefusal) where
  module _ (plant : List Actuator) (digest first second : List ℕ) where
    pub is-new : answer ≡ Ok New → IfOk answer (ChecksPair plant digest first second) → IsNewPair first second
    is-new is told = subst (λ r. IfOk r (ChecksPair plant digest first second)) is told

    pub not-new : (events now leases pending : ℕ) → answer ≡ Ok (Found events now leases pending) → IfOk answer (ChecksPair plant digest first second) → IsNewPair first second → ⊥
    not-new events now leases pending is told =
        let found : IsFound plant digest first second events now leases pending = subst (λ r. IfOk r (ChecksPair plant digest first second)) is told in
        found.not_new

  -- no disk failed
  pub no-fault : (checked : Checked) (before now : Counts) → answer ≡ Ok checked → CheckCause before now answer → now ≡ before
  no-fault checked before now is cause = subst (CheckCause before now) is cause
