-- The state that a sound persistent part opens to is sound, and so is the first one.
use Rattle.std.proofs.Common.{◌≡◌, ℕ, zero, suc, ◌+◌, ◌<◌, ◌≤◌, List, length, map, refl, ap, sym, subst, arith}
use Rattle.std.specs.List.{AllByRecursion, range_with_len}
use Rattle.boss_model.specs.declared.state.Actuator.{Actuator}
use Rattle.boss_model.specs.Settle.{fresh, opened}
use Rattle.boss_model.specs.Sound.{Distinct, Settled, IsWant, IsSoundPersistent, IsSound}
use Rattle.boss_model.specs.State.{first_persistent, Persistent}
use Rattle.boss_model.specs.Target.{target}
use Rattle.law_soundness.proofs.Fresh.{fresh-at, length-range}
use Rattle.law_time.proofs.Places.{member-above}

pub first-sound : (plant : List Actuator) → IsSoundPersistent plant first_persistent
first-sound plant = record {
  now = omega arith;
  first = omega arith;
  next = omega arith;
  lease_slots = tt;
  pending_slots = tt;
  slots = tt;
  leases = tt;
  pending = tt;
  numbers = tt;
  txns = tt;
  open_parts = tt;
  ended_parts = tt;
  done = tt;
  few_done = omega arith;
  done_once = tt;
  done_known = tt;
  few_processes = omega arith;
  names = tt;
  processes = tt;
}

settled-fresh : (plant : List Actuator) (d : Persistent) (place count : ℕ) → Settled plant d place (map (λ point. fresh (target plant d point)) (range_with_len place count))
settled-fresh plant d place zero = tt
settled-fresh plant d place (suc count) = (refl, settled-fresh plant d (place + 1) count)

above-range : (least place count : ℕ) → least < place → AllByRecursion (λ x. least < x) (range_with_len place count)
above-range least place zero above = tt
above-range least place (suc count) above = (above, above-range least (place + 1) count (omega arith))

once-range : (place count : ℕ) → Distinct (range_with_len place count)
once-range place zero = tt
once-range place (suc count) = (member-above place (range_with_len (place + 1) count) (above-range place (place + 1) count (omega arith)), once-range (place + 1) count)

range-within : (P : ℕ → Type 0) (place count end : ℕ) → place + count ≤ end → ((k : ℕ) → k < end → P k) → AllByRecursion P (range_with_len place count)
range-within P place zero end within each = tt
range-within P place (suc count) end within each = (each place (omega arith), range-within P (place + 1) count end (omega arith) each)

pub opened-sound : (plant : List Actuator) (d : Persistent) → IsSoundPersistent plant d → IsSound plant (opened plant d)
opened-sound plant d sound =
    let many : length (opened plant d).proxies ≡ length plant = length-range (λ point. fresh (target plant d point)) 0 (length plant) in
    record {
      persistent = sound;
      sessions = tt;
      held = tt;
      attached = tt;
      proxies = many;
      commanded = settled-fresh plant d 0 (length plant);
      wants = range-within (IsWant (opened plant d).proxies) 0 (length plant) (length plant) (omega arith)
          (λ k within. record { known = subst (λ n. k < n) (sym many) within; pending = ap (λ p. p.mark) (fresh-at (λ point. target plant d point) 0 k (length plant) within) });
      once = once-range 0 (length plant);
    }
