-- In a sound state the moments of reversions and leases are within their bounds.
use Rattle.std.proofs.Common.{List, [], arith, true, ℕ, ◌^◌, ◌∷◌, ◌≡◌, ◌≤◌}
use Rattle.std.specs.List.{AllByRecursion, list_all}
use Rattle.std.proofs.lemmas.Bool.Decides.{nat_tests}
use Rattle.boss_model.specs.declared.command.Step.{Step}
use Rattle.boss_model.specs.declared.state.Actuator.{Actuator}
use Rattle.boss_model.specs.declared.state.Lease.{Lease}
use Rattle.boss_model.specs.declared.state.Pending.{Pending}
use Rattle.boss_model.specs.Reversions.{hold}
use Rattle.boss_model.specs.Sound.{IsLease, IsPending, IsSoundPersistent}
use Rattle.boss_model.specs.State.{Persistent}
use Rattle.boss_model.specs.Submit.{is_step, is_reversion}
use Rattle.law_time.proofs.Orders.{each-map}
use Rattle.law_soundness.proofs.RenewSound.{positive}
use Rattle.law_due.specs.Playing.{CanPlay, IsPlayable, IsEndable}

short-steps : (plant : List Actuator) (point : ℕ) (steps : List Step) → list_all (is_step plant point) steps ≡ true → AllByRecursion (λ step. hold step ≤ 86400000) steps
short-steps plant point [] all = tt
short-steps plant point (step ∷ steps) all = ((positive step.hold 86400000 (grind arith)).1, short-steps plant point steps (grind arith))

can-play : (plant : List Actuator) (point : ℕ) (steps : List Step) → is_reversion plant point steps ≡ true → CanPlay steps
can-play plant point steps is = (grind (arith, nat_tests), short-steps plant point steps (grind arith))

is-playable : (plant : List Actuator) (now : ℕ) (reversion : Pending) → now ≤ 2 ^ 61 → IsPending plant now reversion → IsPlayable reversion
is-playable plant now reversion soon is = (omega (arith, is.started), can-play plant reversion.point reversion.steps is.steps)

is-endable : (plant : List Actuator) (now : ℕ) (lease : Lease) → now ≤ 2 ^ 60 → IsLease plant now lease → IsEndable lease
is-endable plant now lease soon is = (omega (arith, is.soon), can-play plant lease.point lease.revert is.reverting)

pub all-playable : (plant : List Actuator) (d : Persistent) → IsSoundPersistent plant d → AllByRecursion IsPlayable d.pending
all-playable plant d sound = each-map (IsPending plant d.now) IsPlayable (λ reversion is. is-playable plant d.now reversion (omega (arith, sound.now)) is) d.pending sound.pending

pub all-endable : (plant : List Actuator) (d : Persistent) → IsSoundPersistent plant d → AllByRecursion IsEndable d.leases
all-endable plant d sound = each-map (IsLease plant d.now) IsEndable (λ lease is. is-endable plant d.now lease sound.now is) d.leases sound.leases

-- and each reversion has started at every later moment
pub all-started : (plant : List Actuator) (d : Persistent) (n : ℕ) → d.now ≤ n → IsSoundPersistent plant d → AllByRecursion (λ reversion. reversion.start ≤ n) d.pending
all-started plant d n later sound = each-map (IsPending plant d.now) (λ (reversion : Pending). reversion.start ≤ n) (λ reversion is. omega (arith, is.started)) d.pending sound.pending
