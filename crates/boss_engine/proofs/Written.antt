-- The writes of a submit that is not refused have their levels and lengths.
use Rattle.std.proofs.Common.{◌≡◌, ℕ, ℤ, pos, negsuc, List, true, None, arith}
use Rattle.std.specs.Prelude.{◌≤ℤ◌}
use Rattle.std.specs.List.{AllByRecursion}
use Rattle.boss_model.specs.declared.command.Setting.{Setting}
use Rattle.boss_model.specs.declared.state.Actuator.{Actuator}
use Rattle.boss_model.specs.State.{Persistent}
use Rattle.boss_model.specs.Submit.{is_within, submit_refused}
use Rattle.law_soundness.proofs.NotRefused.{IsWrite, submit-not-refused}
use Rattle.law_time.proofs.Orders.{each-map}
use Rattle.law_soundness.proofs.RenewSound.{positive}
use Rattle.boss_engine.specs.Writing.{IsWritable}

within : (z : ℤ) (most : ℕ) → is_within (pos 1) (pos most) z ≡ true → (pos 1 ≤ℤ z) × (z ≤ℤ pos most)
within (pos n) most is = let here = positive (pos n) most is in (grind arith, grind arith)
within (negsuc n) most is = cc

is-writable : (plant : List Actuator) (write : Setting) → IsWrite plant write → IsWritable write
is-writable plant write is =
    let lease = within write.lease 604800000 is.lasting in (within write.priority 16 (grind (arith, is.level)), lease.0, lease.1)

pub all-writable : (plant : List Actuator) (writes : List Setting) (d : Persistent) → submit_refused plant writes d ≡ None → AllByRecursion IsWritable writes
all-writable plant writes d none = each-map (IsWrite plant) IsWritable (is-writable plant) writes (submit-not-refused plant writes d none).allowed
