-- Values that a point takes, and numbers that a command asks for within bounds.
use Rattle.std.proofs.Common.{◌≡◌, ℕ, zero, suc, ◌<◌, ◌≤◌, ℤ, pos, negsuc, List, [], ◌∷◌, length, true, ◌&&◌, arith}
use Rattle.std.specs.Prelude.{int_le}
use Rattle.std.specs.List.{AllByRecursion, list_all}
use Rattle.std.proofs.lemmas.Bool.Decides.{nat_tests}
use Rattle.boss_model.specs.declared.command.Setting.{Setting}
use Rattle.boss_model.specs.declared.command.Step.{Step}
use Rattle.boss_model.specs.declared.point.Kind.{Kind}
use Rattle.boss_model.specs.declared.point.Kind.TheVariants.{Analog, Binary, Multi}
use Rattle.boss_model.specs.declared.state.Actuator.{Actuator}
use Rattle.boss_model.specs.Catalogue.{fits, fits_at}
use Rattle.boss_model.specs.Limits.{most_points, longest_hold, longest_lease}
use Rattle.boss_model.specs.Submit.{is_within, is_level, is_length, is_step, is_reversion}
use Rattle.law_soundness.proofs.NotRefused.{IsWrite}
use Rattle.law_time.proofs.Orders.{each-map, each-both}
use Rattle.boss_model.specs.Plants.{is_limit, IsKind, IsPlant}
use Rattle.law_spelling.specs.Ranges.{IsPoint, IsLevel, IsSigned, IsBetween, IsStep, AreSteps, IsWritten}

-- ---- whole numbers

between : (low high : ℕ) (z : ℤ) → is_within (pos low) (pos high) z ≡ true → IsBetween low high z
between low high (pos n) within = (grind (arith, nat_tests), grind (arith, nat_tests))
between low high (negsuc n) within = cc

-- between limits of a quadrillion
signed-limits : (min max z : ℤ) → is_limit min ≡ true → is_limit max ≡ true → (int_le min z && int_le z max) ≡ true → IsSigned z
signed-limits min (pos b) (pos n) low high within = grind (arith, nat_tests)
signed-limits min (negsuc b) (pos n) low high within = grind (arith, nat_tests)
signed-limits (pos a) max (negsuc n) low high within = grind (arith, nat_tests)
signed-limits (negsuc a) max (negsuc n) low high within = grind (arith, nat_tests)

signed-kind : (kind : Kind) (value : ℤ) → IsKind kind → fits kind value ≡ true → IsSigned value
signed-kind (Analog min max) value is fit = signed-limits min max value is.0 is.1 fit
signed-kind Binary (pos n) is fit = grind (arith, nat_tests)
signed-kind Binary (negsuc n) is fit = cc
signed-kind (Multi (pos states)) (pos n) is fit = grind (arith, nat_tests)
signed-kind (Multi (negsuc states)) (pos n) is fit = cc
signed-kind (Multi states) (negsuc n) is fit = cc

signed-at : (plant : List Actuator) (point : ℕ) (value : ℤ) → AllByRecursion (λ a. IsKind a.kind) plant → fits_at plant point value ≡ true → IsSigned value
signed-at [] point value kinds fit = cc
signed-at (a ∷ others) zero value kinds fit = signed-kind a.kind value kinds.0 fit
signed-at (a ∷ others) (suc point) value kinds fit = signed-at others point value kinds.1 fit

pub level-of : (n : ℕ) → is_level (pos n) ≡ true → IsLevel n
level-of n is = (grind (arith, nat_tests), grind (arith, nat_tests))

module _ (plant : List Actuator) (whole : IsPlant plant) where
  pub value-at : (point : ℕ) (value : ℤ) → fits_at plant point value ≡ true → IsSigned value
  value-at point value fit = signed-at plant point value whole.kinds fit

  pub point-of : (point : ℕ) → point < length plant → IsPoint point
  point-of point known = let few : length plant ≤ most_points = whole.few in omega arith

  each-step : (point : ℕ) (steps : List Step) → list_all (is_step plant point) steps ≡ true → AllByRecursion IsStep steps
  each-step point [] all = tt
  each-step point (step ∷ steps) all = (
    record { value = value-at point step.value (grind (arith)); hold = between 1 longest_hold step.hold (grind (arith)) },
    each-step point steps (grind (arith)),
  )

  pub steps-of : (point : ℕ) (steps : List Step) → is_reversion plant point steps ≡ true → AreSteps steps
  steps-of point steps is = record { few = grind (arith, nat_tests); each = each-step point steps (grind (arith)) }

  written : (write : Setting) → IsWrite plant write → write.point < length plant → IsWritten write
  written write is known = record {
    point = point-of write.point known;
    value = value-at write.point write.value is.fitting;
    priority = between 1 16 write.priority (grind (arith, is.level));
    lease = between 1 longest_lease write.lease is.lasting;
    revert = steps-of write.point write.revert is.reverting;
  }

  pub all-written : (writes : List Setting) → AllByRecursion (IsWrite plant) writes → AllByRecursion (λ w. w.point < length plant) writes → AllByRecursion IsWritten writes
  all-written writes are known = each-map (λ w. IsWrite plant w × (w.point < length plant)) IsWritten (λ w both. written w both.0 both.1) writes
      (each-both (IsWrite plant) (λ w. w.point < length plant) writes are known)

  pub length-between : (asked : ℤ) → is_length asked ≡ true → IsBetween 1 longest_lease asked
  length-between asked is = between 1 longest_lease asked is
