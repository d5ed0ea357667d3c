-- In a sound state leases and reversions have slots of the plant, and reversions are under way.
use Rattle.std.proofs.Common.{◌≡◌, ℕ, ◌≤◌, ◌<◌, ◌^◌, pos, List, [], ◌∷◌, length, true, arith}
use Rattle.std.specs.List.{list_all, AllByRecursion}
use Rattle.std.proofs.lemmas.Bool.Decides.{nat_tests}
use Rattle.boss_model.specs.declared.command.Step.{Step}
use Rattle.boss_model.specs.declared.state.Actuator.{Actuator}
use Rattle.boss_model.specs.declared.state.Lease.{Lease}
use Rattle.boss_model.specs.declared.state.Pending.{Pending}
use Rattle.boss_model.specs.Reversions.{hold}
use Rattle.boss_model.specs.Sound.{IsLease, IsPart, IsPending, IsSoundPersistent, IsTransaction}
use Rattle.boss_model.specs.State.{Persistent}
use Rattle.boss_model.specs.Submit.{is_level, is_step, is_reversion}
use Rattle.law_time.proofs.Orders.{each-map}
use Rattle.law_time.proofs.TickSound.{known-lease, known-pending}
use Rattle.law_soundness.proofs.RenewSound.{positive}
use Rattle.law_due.specs.Playing.{CanPlay}
use Rattle.boss_holdings.specs.Putting.{IsUnderWay}

pub within-levels : (priority : ℕ) → is_level (pos priority) ≡ true → (1 ≤ priority) × (priority ≤ 16)
within-levels priority is = (grind (arith, nat_tests), grind (arith, nat_tests))

short-steps : (plant : List Actuator) (point : ℕ) (steps : List Step) → list_all (is_step plant point) steps ≡ true → AllByRecursion (λ step. hold step ≤ 86400000) steps
short-steps plant point [] all = tt
short-steps plant point (step ∷ steps) all = ((positive step.hold 86400000 (grind arith)).1, short-steps plant point steps (grind arith))

can-play : (plant : List Actuator) (point : ℕ) (steps : List Step) → is_reversion plant point steps ≡ true → CanPlay steps
can-play plant point steps is = (grind (arith, nat_tests), short-steps plant point steps (grind arith))

module _ (plant : List Actuator) (d : Persistent) (sound : IsSoundPersistent plant d) where
  pub leases-placed : AllByRecursion (λ (l : Lease). (l.point < length plant) × (1 ≤ l.priority) × (l.priority ≤ 16)) d.leases
  leases-placed = each-map (IsLease plant d.now) (λ l. (l.point < length plant) × (1 ≤ l.priority) × (l.priority ≤ 16))
      (λ l is. let level = within-levels l.priority is.level in (known-lease plant d.now l is, level.0, level.1)) d.leases sound.leases

  pub pending-placed : AllByRecursion (λ (r : Pending). (r.point < length plant) × (1 ≤ r.priority) × (r.priority ≤ 16)) d.pending
  pending-placed = each-map (IsPending plant d.now) (λ r. (r.point < length plant) × (1 ≤ r.priority) × (r.priority ≤ 16))
      (λ r is. let level = within-levels r.priority is.level in (known-pending plant d.now r is, level.0, level.1)) d.pending sound.pending

  pub pending-playing : AllByRecursion (IsUnderWay d.now) d.pending
  pending-playing = each-map (IsPending plant d.now) (IsUnderWay d.now)
      (λ r is. ((omega (arith, is.started, sound.now), can-play plant r.point r.steps is.steps), is.started, is.running)) d.pending sound.pending

  -- the points of all parts are the plant's
  pub parts-placed : AllByRecursion (λ t. AllByRecursion (λ part. part.point < length plant) t.parts) d.txns
  parts-placed = each-map (IsTransaction plant d) (λ t. AllByRecursion (λ part. part.point < length plant) t.parts)
      (λ t is. each-map (IsPart plant d.now t.txn d.leases) (λ part. part.point < length plant) (λ part own. own.known) t.parts is.parts) d.txns sound.txns
