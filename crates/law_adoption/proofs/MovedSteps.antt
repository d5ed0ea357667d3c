-- Values and steps that the new points take.
use Rattle.std.proofs.Common.{◌≡◌, ℕ, pos, nat_le, List, [], ◌∷◌, length, Bool, true, ◌&&◌, refl, arith}
use Rattle.std.specs.List.{list_all}
use Rattle.boss_model.specs.declared.command.Step.{Step}
use Rattle.boss_model.specs.declared.state.Actuator.{Actuator}
use Rattle.boss_model.specs.Catalogue.{fits_at}
use Rattle.boss_model.specs.Limits.{longest_hold, most_steps}
use Rattle.boss_model.specs.Submit.{is_within, is_step, is_reversion}

-- a test of two is taken apart and put together by these two, so that no tactic looks into the numbers that it has
pub both-true : (a b : Bool) → (a && b) ≡ true → (a ≡ true) × (b ≡ true)
both-true a b all = (grind arith, grind arith)

pub join : (a b : Bool) → a ≡ true → b ≡ true → (a && b) ≡ true
join a b p q = grind arith

module _ (plant new : List Actuator) (point place : ℕ) where
  steps-fit : (steps : List Step) → list_all (is_step plant point) steps ≡ true → list_all (λ step. fits_at new place step.value) steps ≡ true → list_all (is_step new place) steps ≡ true
  steps-fit [] are fit = refl
  steps-fit (step ∷ steps) are fit =
      let split = both-true (is_step plant point step) (list_all (is_step plant point) steps) are in
      let held = both-true (is_within (pos 1) (pos longest_hold) step.hold) (fits_at plant point step.value) split.0 in
      let fits = both-true (fits_at new place step.value) (list_all (λ s. fits_at new place s.value) steps) fit in
      join (is_step new place step) (list_all (is_step new place) steps)
      (join (is_within (pos 1) (pos longest_hold) step.hold) (fits_at new place step.value) held.0 fits.0)
      (steps-fit steps split.1 fits.1)

  pub reversion-fits : (steps : List Step) → is_reversion plant point steps ≡ true → list_all (λ step. fits_at new place step.value) steps ≡ true → is_reversion new place steps ≡ true
  reversion-fits steps is fit =
      let split = both-true (nat_le (length steps) most_steps) (list_all (is_step plant point) steps) is in
      join (nat_le (length steps) most_steps) (list_all (is_step new place) steps) split.0 (steps-fit steps split.1 fit)
