-- A new process keeps a sound persistent part sound.
use Rattle.std.proofs.Common.{◌≡◌, ℕ, ◌+◌, ◌<◌, ◌≤◌, nat_eq, List, [], ◌∷◌, ◌++◌, length, map, true, false, None, refl, arith, length-append}
use Rattle.std.specs.List.{AllByRecursion, list_any}
use Rattle.std.specs.Cmp.Lexicographic.{pointwise}
use Rattle.std.proofs.lemmas.Bool.Decides.{nat_tests}
use Rattle.boss_model.specs.declared.state.Actuator.{Actuator}
use Rattle.boss_model.specs.Limits.{most_processes, last_moment}
use Rattle.boss_model.specs.Names.{is_name}
use Rattle.boss_model.specs.Processes.{process_named, is_full, enrolled}
use Rattle.boss_model.specs.Sound.{DistinctNames, IsTransaction, IsProcess, IsSoundPersistent}
use Rattle.boss_model.specs.State.{Process, Persistent}
use Rattle.law_soundness.proofs.EndSound.{IsAt}
use Rattle.law_time.proofs.Filters.{none-found}
use Rattle.law_time.proofs.GroupSound.{transaction-in}
use Rattle.law_time.proofs.Orders.{each-map, each-append}
use Rattle.law_soundness.proofs.RenewSound.{later-sound}

same-turned : (xs ys : List ℕ) → pointwise nat_eq xs ys ≡ pointwise nat_eq ys xs
same-turned [] [] = refl
same-turned [] (y ∷ ys) = refl
same-turned (x ∷ xs) [] = refl
same-turned (x ∷ xs) (y ∷ ys) = grind (arith, nat_tests, same-turned xs ys)

names-snoc : (ps : List Process) (p : Process) → DistinctNames (map (λ q. q.name) ps) → AllByRecursion (λ q. pointwise nat_eq q.name p.name ≡ false) ps →
    DistinctNames (map (λ q. q.name) (ps ++ p ∷ []))
names-snoc [] p distinct new = (refl, tt)
names-snoc (q ∷ qs) p distinct new = (others qs distinct.0, names-snoc qs p distinct.1 new.1)
  where
    others : (rs : List Process) → list_any (λ other. pointwise nat_eq other q.name) (map (λ x. x.name) rs) ≡ false →
        list_any (λ other. pointwise nat_eq other q.name) (map (λ x. x.name) (rs ++ p ∷ [])) ≡ false
    others [] none = grind (arith, same-turned p.name q.name, new.0)
    others (r ∷ rs) none = grind (arith, others rs)

pub enrolled-sound : (plant : List Actuator) (name : List ℕ) (n : ℕ) (d : Persistent) → IsSoundPersistent plant d → IsAt n d → n ≤ last_moment → is_name name ≡ true →
    process_named d.processes name ≡ None → is_full d.processes ≡ false → IsSoundPersistent plant (enrolled name n d)
enrolled-sound plant name n d sound at small named none room =
    let new : Process = record { name = name; count = 0; kept = []; reply = None } in
    let s = later-sound plant n d sound at small in
    let more : length (d.processes ++ new ∷ []) ≡ length d.processes + 1 = length-append d.processes (new ∷ []) in
    let few : length d.processes < most_processes = grind (arith, nat_tests) in
    record {
      now = s.now;
      first = s.first;
      next = s.next;
      lease_slots = s.lease_slots;
      pending_slots = s.pending_slots;
      slots = s.slots;
      leases = s.leases;
      pending = s.pending;
      numbers = s.numbers;
      txns = each-map (IsTransaction plant (record d { now = n })) (IsTransaction plant (enrolled name n d)) (λ t is.
          let known : t.owner < length d.processes = is.owner in
          transaction-in plant (record d { now = n }) (enrolled name n d) t t.parts is is.given (omega arith) refl is.parts is.owned is.policies) d.txns s.txns;
      open_parts = s.open_parts;
      ended_parts = s.ended_parts;
      done = s.done;
      few_done = s.few_done;
      done_once = s.done_once;
      done_known = s.done_known;
      few_processes = omega arith;
      names = names-snoc d.processes new s.names (none-found (λ p. pointwise nat_eq p.name name) d.processes none);
      processes = each-append (IsProcess plant n) d.processes (new ∷ []) s.processes (
        record {
          name = named;
          count = omega arith;
          few = omega arith;
          sent = omega arith;
          numbers = tt;
          past = tt;
          known = tt;
          words = tt;
          reply = tt;
        },
        tt,
      );
    }
