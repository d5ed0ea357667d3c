-- What a check told, by its answer.
use Rattle.std.proofs.Common.{◌≡◌, ◌⊎◌, inr, List, ℕ, subst}
use Rattle.std.specs.Prelude.{Result, Ok, Err, IfOk, IfErr}
use Rattle.boss_disk_pair.specs.Causes.{Counts}
use Rattle.boss_model.specs.declared.state.Actuator.{Actuator}
use Rattle.boss_opening.specs.declared.checking.Checked.{Checked}
use Rattle.boss_opening.specs.declared.checking.Checked.TheVariants.{New, Found}
use Rattle.boss_opening.specs.Checks.{ChecksPair, CheckCause, IsFound}
use Rattle.boss_opening.specs.Opens.{OpenRefuses}
use Rattle.boss_pair_find.specs.declared.refusal.DurableRefusal.{DurableRefusal}
use Rattle.boss_pair_find.specs.Holds.{IsNewPair}
use Rattle.boss_pair_find.specs.Refusals.{PairCause}

module _ (plant : List Actuator) (digest first second : List ℕ) (result : Result Checked DurableRefusal) where
  pub looked_new : (found : Checked) → result ≡ Ok found → found ≡ New → IfOk result (ChecksPair plant digest first second) → IsNewPair first second
  looked_new found is new tells =
      subst (ChecksPair plant digest first second) new (subst (λ (r : Result Checked DurableRefusal). IfOk r (ChecksPair plant digest first second)) is tells)

  pub looked_found : (found : Checked) (number now leases pending : ℕ) → result ≡ Ok found → found ≡ Found number now leases pending →
      IfOk result (ChecksPair plant digest first second) → IsFound plant digest first second number now leases pending
  looked_found found number now leases pending is some tells =
      subst (ChecksPair plant digest first second) some (subst (λ (r : Result Checked DurableRefusal). IfOk r (ChecksPair plant digest first second)) is tells)

  pub looked_refused : (why : DurableRefusal) → result ≡ Err why → IfErr result (OpenRefuses plant digest first second) → OpenRefuses plant digest first second why
  looked_refused why is refuses = subst (λ (r : Result Checked DurableRefusal). IfErr r (OpenRefuses plant digest first second)) is refuses

module _ (before now : Counts) (result : Result Checked DurableRefusal) (cause : CheckCause before now result) where
  pub looked_fine : (found : Checked) → result ≡ Ok found → now ≡ before
  looked_fine found is = subst (CheckCause before now) is cause

  pub looked_cause : (why : DurableRefusal) → result ≡ Err why → PairCause before now why
  looked_cause why is = subst (CheckCause before now) is cause

pub whatever : {T E : Type 0} (P : Type 0) (result : Result T E) → P → IfOk result (λ x. P)
whatever P (Ok x) is = is
whatever P (Err why) is = tt

-- where it ended before, too
pub at_any_rate : {T E : Type 0} (P Q : Type 0) (result : Result T E) → P → IfErr result (λ x. Q ⊎ P)
at_any_rate P Q (Ok x) is = tt
at_any_rate P Q (Err why) is = inr is
