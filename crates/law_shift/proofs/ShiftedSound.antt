-- A shifted state is sound.
use Rattle.std.proofs.Common.{◌≡◌, ℕ, ◌-◌, ◌<◌, ◌≤◌, ◌==◌, List, [], ◌∷◌, length, map, true, not, is_none, refl, ap, sym, ◌∙◌, subst, arith}
use Rattle.std.specs.List.{AllByRecursion}
use Rattle.std.proofs.lemmas.List.{length-map}
use Rattle.boss_model.specs.declared.state.Actuator.{Actuator}
use Rattle.boss_model.specs.declared.state.Pending.{Pending}
use Rattle.boss_model.specs.Happenings.{lives}
use Rattle.boss_model.specs.Limits.{last_moment, most_writes, most_processes}
use Rattle.boss_model.specs.Lists.{member}
use Rattle.boss_model.specs.Records.{Transaction}
use Rattle.boss_model.specs.Reversions.{courses}
use Rattle.boss_model.specs.Sound.{Distinct, DistinctNames, Rising, IsLease, IsPending, IsPart, IsTransaction, has_part, is_start, is_kept, number_rank, IsProcess, IsSoundPersistent}
use Rattle.boss_model.specs.State.{lease_slot, pending_slot, Process, Persistent}
use Rattle.law_time.proofs.Filters.{each-mapped}
use Rattle.law_time.proofs.Orders.{each-map, each-both}
use Rattle.law_time.proofs.Slots.{Rising-same}
use Rattle.law_shift.specs.Shifted.{shifted_lease, shifted_pending, shifted_part, shifted_txn, shifted_process, shifted, MayShift}
use Rattle.law_shift.proofs.Anys.{any-alike, ranks-map}
use Rattle.law_shift.proofs.ShiftedParts.{lease-sound, pending-sound, courses-map, part-sound, points-map, has_part-map, none-passes, start-passes, process-sound}

module _ (by : ℕ) where
  lives-map : (txn : ℕ) (cs : List Pending) → lives txn (map (shifted_pending by) cs) ≡ lives txn cs
  lives-map txn cs = any-alike (λ c. c.txn == txn) (λ c. c.txn == txn) (shifted_pending by) (λ c. refl) cs

  is_kept-map : (txns : List Transaction) (txn : ℕ) → is_kept (map (shifted_txn by) txns) txn ≡ is_kept txns txn
  is_kept-map txns txn = any-alike (λ t. t.txn == txn) (λ t. t.txn == txn) (shifted_txn by) (λ t. refl) txns

  names-map : (processes : List Process) → map (λ p. p.name) processes ≡ map (λ p. p.name) (map (shifted_process by) processes)
  names-map [] = refl
  names-map (p ∷ ps) = ap (λ names. p.name ∷ names) (names-map ps)

  txn-sound : (plant : List Actuator) (d : Persistent) (t : Transaction) → IsTransaction plant d t → IsTransaction plant (shifted by d) (shifted_txn by t)
  txn-sound plant d t is =
      let as_many : length (map (shifted_part by) t.parts) ≡ length t.parts = length-map t.parts (shifted_part by) in
      let processes : length (map (shifted_process by) d.processes) ≡ length d.processes = length-map d.processes (shifted_process by) in
      let owner : t.owner < length d.processes = is.owner in
      let some : 1 ≤ length t.parts = is.some_part in
      let few : length t.parts ≤ most_writes = is.few_parts in
      record {
        numbered = is.numbered;
        given = is.given;
        owner = omega arith;
        some_part = omega arith;
        few_parts = omega arith;
        points = subst Distinct (points-map by t.parts) is.points;
        parts = each-mapped (IsPart plant (d.now - by) t.txn (map (shifted_lease by) d.leases)) (shifted_part by) t.parts
            (each-map (IsPart plant d.now t.txn d.leases) (λ part. IsPart plant (d.now - by) t.txn (map (shifted_lease by) d.leases) (shifted_part by part))
            (λ part here. part-sound by plant d.now t.txn d.leases part here) t.parts is.parts);
        owned = subst (AllByRecursion (λ r. r.txn ≡ t.txn → r.owner ≡ t.owner)) (sym (courses-map by d.pending d.leases))
            (each-mapped (λ r. r.txn ≡ t.txn → r.owner ≡ t.owner) (shifted_pending by) (courses d.pending d.leases) is.owned);
        policies = each-mapped (λ l. l.txn ≡ t.txn → l.policy ≡ t.policy) (shifted_lease by) d.leases is.policies;
      }

  pub shifted-sound : (plant : List Actuator) (d : Persistent) → MayShift by d → IsSoundPersistent plant d → IsSoundPersistent plant (shifted by d)
  shifted-sound plant d may sound =
      let cs = courses d.pending d.leases in
      let far : by ≤ d.now = may.now in
      let small : d.now ≤ last_moment = sound.now in
      let processes : length (map (shifted_process by) d.processes) ≡ length d.processes = length-map d.processes (shifted_process by) in
      let few_processes : length d.processes ≤ most_processes = sound.few_processes in
      record {
        now = omega arith;
        first = sound.first;
        next = sound.next;
        lease_slots = Rising-same lease_slot d.leases (map (shifted_lease by) d.leases) (ranks-map lease_slot (shifted_lease by) (λ l. refl) d.leases) sound.lease_slots;
        pending_slots = Rising-same pending_slot d.pending (map (shifted_pending by) d.pending) (ranks-map pending_slot (shifted_pending by) (λ r. refl) d.pending) sound.pending_slots;
        slots = subst (Rising pending_slot) (sym (courses-map by d.pending d.leases))
            (Rising-same pending_slot cs (map (shifted_pending by) cs) (ranks-map pending_slot (shifted_pending by) (λ r. refl) cs) sound.slots);
        leases = each-mapped (IsLease plant (d.now - by)) (shifted_lease by) d.leases
            (each-map (IsLease plant d.now) (λ l. IsLease plant (d.now - by) (shifted_lease by l)) (λ l is. lease-sound by plant d.now l far is) d.leases sound.leases);
        pending = each-mapped (IsPending plant (d.now - by)) (shifted_pending by) d.pending
            (each-map (λ r. (by ≤ r.start) × IsPending plant d.now r) (λ r. IsPending plant (d.now - by) (shifted_pending by r)) (λ r both. pending-sound by plant d.now r both.0 both.1) d.pending
            (each-both (λ r. by ≤ r.start) (IsPending plant d.now) d.pending may.started sound.pending));
        numbers = Rising-same number_rank d.txns (map (shifted_txn by) d.txns) (ranks-map number_rank (shifted_txn by) (λ t. refl) d.txns) sound.numbers;
        txns = each-mapped (IsTransaction plant (shifted by d)) (shifted_txn by) d.txns
            (each-map (IsTransaction plant d) (λ t. IsTransaction plant (shifted by d) (shifted_txn by t)) (λ t is. txn-sound plant d t is) d.txns sound.txns);
        open_parts = each-mapped (λ l. has_part is_none (map (shifted_txn by) d.txns) l.txn l.point l.priority ≡ true) (shifted_lease by) d.leases
            (each-map (λ l. has_part is_none d.txns l.txn l.point l.priority ≡ true) (λ l. has_part is_none (map (shifted_txn by) d.txns) l.txn l.point l.priority ≡ true)
            (λ l there. has_part-map by is_none is_none (none-passes by) d.txns l.txn l.point l.priority there) d.leases sound.open_parts);
        ended_parts = each-mapped (λ r. has_part (is_start r.start) (map (shifted_txn by) d.txns) r.txn r.point r.priority ≡ true) (shifted_pending by) d.pending
            (each-map (λ r. has_part (is_start r.start) d.txns r.txn r.point r.priority ≡ true) (λ r. has_part (is_start (r.start - by)) (map (shifted_txn by) d.txns) r.txn r.point r.priority ≡ true)
            (λ r there. has_part-map by (is_start r.start) (is_start (r.start - by)) (start-passes by r.start) d.txns r.txn r.point r.priority there) d.pending sound.ended_parts);
        done = each-mapped (λ t. member t.txn d.done ≡ not (lives t.txn (courses (map (shifted_pending by) d.pending) (map (shifted_lease by) d.leases)))) (shifted_txn by) d.txns
            (each-map (λ t. member t.txn d.done ≡ not (lives t.txn cs)) (λ t. member t.txn d.done ≡ not (lives t.txn (courses (map (shifted_pending by) d.pending) (map (shifted_lease by) d.leases))))
            (λ t is. is ∙ ap not (sym (ap (lives t.txn) (courses-map by d.pending d.leases) ∙ lives-map t.txn cs))) d.txns sound.done);
        few_done = sound.few_done;
        done_once = sound.done_once;
        done_known = each-map (λ txn. is_kept d.txns txn ≡ true) (λ txn. is_kept (map (shifted_txn by) d.txns) txn ≡ true) (λ txn there. is_kept-map d.txns txn ∙ there) d.done sound.done_known;
        few_processes = omega arith;
        names = subst DistinctNames (names-map d.processes) sound.names;
        processes = each-mapped (IsProcess plant (d.now - by)) (shifted_process by) d.processes
            (each-map (IsProcess plant d.now) (λ p. IsProcess plant (d.now - by) (shifted_process by p)) (λ p is. process-sound by plant d.now p is) d.processes sound.processes);
      }
