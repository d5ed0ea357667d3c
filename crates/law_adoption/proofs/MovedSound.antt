-- An adopted state is sound.
use Rattle.std.proofs.Common.{◌≡◌, ℕ, ◌<◌, ◌≤◌, List, [], ◌∷◌, length, map, true, not, ◌&&◌, Option, None, is_none, refl, ap, sym, ◌∙◌, subst, arith}
use Rattle.std.specs.List.{filter, list_all}
use Rattle.std.proofs.lemmas.List.{length-map}
use Rattle.boss_model.specs.declared.state.Actuator.{Actuator}
use Rattle.boss_model.specs.declared.state.Lease.{Lease}
use Rattle.boss_model.specs.declared.state.Pending.{Pending}
use Rattle.boss_model.specs.Catalogue.{Catalogue, actuators, fits_at}
use Rattle.boss_model.specs.Happenings.{lives}
use Rattle.boss_model.specs.Limits.{most_writes, done_kept, most_processes}
use Rattle.boss_model.specs.Lists.{member}
use Rattle.boss_model.specs.Records.{Part, Transaction}
use Rattle.boss_model.specs.Reversions.{courses}
use Rattle.boss_model.specs.Sound.{DistinctNames, IsLease, IsPending, IsPart, IsTransaction, has_part, is_start, is_kept, number_rank, IsProcess, IsSoundPersistent}
use Rattle.boss_model.specs.State.{lease_slot, pending_slot, Persistent}
use Rattle.boss_model.proofs.Members.{member-filter, Distinct-filter}
use Rattle.law_time.proofs.Filters.{few-filter, each-mapped}
use Rattle.law_time.proofs.Orders.{each-map, each-both, each-filter, each-passed, each-in_order, Rising-filter}
use Rattle.law_time.proofs.Slots.{Rising-same}
use Rattle.law_time.proofs.TickSound.{each-kept}
use Rattle.law_adoption.specs.Adopted.{moved_lease, moved_pending, moved_part, moved_txn, all_stay, staying, moved_process, adopted}
use Rattle.law_adoption.specs.MayMove.{lease_fits, pending_fits, in_use, unfit, MayMove}
use Rattle.law_adoption.specs.Renumber.{renumbered, stays, at, IsRenumbering}
use Rattle.law_adoption.proofs.FromNames.{is-renumbering}
use Rattle.law_adoption.proofs.LongestSuffix.{each-passes}
use Rattle.law_adoption.proofs.MovedProcesses.{process-sound, names-stay}
use Rattle.law_adoption.proofs.MovedRecords.{Stay, leases-records-stay, pending-records-stay, leases-stay, pending-stay, has_part-moved, holds-moved, points-once, is_kept-moved}
use Rattle.law_adoption.proofs.MovedSlots.{moved_leases, moved_reversions, LeasesStay, lives-moved, courses-moved, lease_slots-rise, pending_slots-rise, slots-rise}
use Rattle.law_adoption.proofs.MovedSteps.{both-true, reversion-fits}
use Rattle.law_adoption.proofs.NothingRefused.{may-move}
use Rattle.law_adoption.proofs.Points.{within-plant}

module _ (plant new : List Actuator) (to : ℕ → Option ℕ) where
  -- ---- leases and reversions

  lease-sound : (now : ℕ) (lease : Lease) → lease_fits new to lease ≡ true → IsLease plant now lease → IsLease new now (moved_lease to lease)
  lease-sound now lease fit is =
      let split = both-true (fits_at new (at to lease.point) lease.value) (list_all (λ step. fits_at new (at to lease.point) step.value) lease.revert) fit in
      record {
        fitting = split.0;
        level = is.level;
        reverting = reversion-fits plant new lease.point (at to lease.point) lease.revert is.reverting split.1;
        live = is.live;
        soon = is.soon;
      }

  pending-sound : (now : ℕ) (reversion : Pending) → pending_fits new to reversion ≡ true → IsPending plant now reversion → IsPending new now (moved_pending to reversion)
  pending-sound now reversion fit is = record {
    level = is.level;
    steps = reversion-fits plant new reversion.point (at to reversion.point) reversion.steps is.steps fit;
    started = is.started;
    running = is.running;
  }

  -- ---- records

  module _ (renumbering : IsRenumbering to (length new)) (leases : List Lease) (all : LeasesStay to leases) where
    part-sound : (now txn : ℕ) (part : Part) → stays to part.point ≡ true → IsPart plant now txn leases part → IsPart new now txn (moved_leases to leases) (moved_part to part)
    part-sound now txn part there is = record {
      known = within-plant to (length new) renumbering part.point there;
      priority = is.priority;
      open_part = is.open_part ∙ sym (holds-moved to (length new) renumbering txn part.point part.priority leases there all);
      past = is.past;
      why = is.why;
    }

  module _ (d : Persistent) (renumbering : IsRenumbering to (length new)) (all : LeasesStay to d.leases) where
    txn-sound : (t : Transaction) → all_stay to t ≡ true → IsTransaction plant d t → IsTransaction new (adopted to d) (moved_txn to t)
    txn-sound t there is =
        let as_many : length (map (moved_part to) t.parts) ≡ length t.parts = length-map t.parts (moved_part to) in
        let processes : length (map (moved_process to) d.processes) ≡ length d.processes = length-map d.processes (moved_process to) in
        let owner : t.owner < length d.processes = is.owner in
        let some : 1 ≤ length t.parts = is.some_part in
        let few : length t.parts ≤ most_writes = is.few_parts in
        record {
          numbered = is.numbered;
          given = is.given;
          owner = omega arith;
          some_part = omega arith;
          few_parts = omega arith;
          points = points-once to (length new) renumbering t.parts there is.points;
          parts = each-mapped (IsPart new d.now t.txn (moved_leases to d.leases)) (moved_part to) t.parts
              (each-map (λ part. (stays to part.point ≡ true) × IsPart plant d.now t.txn d.leases part) (λ part. IsPart new d.now t.txn (moved_leases to d.leases) (moved_part to part))
              (λ part both. part-sound renumbering d.leases all d.now t.txn part both.0 both.1) t.parts
              (each-both (λ part. stays to part.point ≡ true) (IsPart plant d.now t.txn d.leases) t.parts (each-passes (λ part. stays to part.point) t.parts there) is.parts));
          owned = courses-moved to (λ r. r.txn ≡ t.txn → r.owner ≡ t.owner) (λ r owned. owned) d.pending d.leases is.owned;
          policies = each-in_order (λ l. l.txn ≡ t.txn → l.policy ≡ t.policy) lease_slot (map (moved_lease to) d.leases)
              (each-mapped (λ l. l.txn ≡ t.txn → l.policy ≡ t.policy) (moved_lease to) d.leases is.policies);
        }

  same-numbers : (txns : List Transaction) → map number_rank txns ≡ map number_rank (map (moved_txn to) txns)
  same-numbers [] = refl
  same-numbers (t ∷ ts) = ap (λ ranks. number_rank t ∷ ranks) (same-numbers ts)

  -- ---- the whole

  pub adopted-sound : (d : Persistent) → IsRenumbering to (length new) → MayMove new to d → IsSoundPersistent plant d → IsSoundPersistent new (adopted to d)
  adopted-sound d renumbering may sound =
      let all : LeasesStay to d.leases = leases-stay plant new to d sound may in
      let all_pending = pending-stay plant new to d sound may in
      let left = staying to d.txns in
      let cs = courses d.pending d.leases in
      let after = courses (moved_reversions to d.pending) (moved_leases to d.leases) in
      let few : length (filter (is_kept left) d.done) ≤ length d.done = few-filter (is_kept left) d.done in
      let few_done : length d.done ≤ done_kept = sound.few_done in
      let processes : length (map (moved_process to) d.processes) ≡ length d.processes = length-map d.processes (moved_process to) in
      let few_processes : length d.processes ≤ most_processes = sound.few_processes in
      record {
        now = sound.now;
        first = sound.first;
        next = sound.next;
        lease_slots = lease_slots-rise to (length new) renumbering d.pending d.leases sound.slots all_pending all;
        pending_slots = pending_slots-rise to (length new) renumbering d.pending d.leases sound.slots all_pending all;
        slots = slots-rise to (length new) renumbering d.pending d.leases sound.slots all_pending all;
        leases = each-in_order (IsLease new d.now) lease_slot (map (moved_lease to) d.leases) (each-mapped (IsLease new d.now) (moved_lease to) d.leases
            (each-map (λ l. (lease_fits new to l ≡ true) × IsLease plant d.now l) (λ l. IsLease new d.now (moved_lease to l)) (λ l both. lease-sound d.now l both.0 both.1) d.leases
            (each-both (λ l. lease_fits new to l ≡ true) (IsLease plant d.now) d.leases may.leases sound.leases)));
        pending = each-in_order (IsPending new d.now) pending_slot (map (moved_pending to) d.pending) (each-mapped (IsPending new d.now) (moved_pending to) d.pending
            (each-map (λ r. (pending_fits new to r ≡ true) × IsPending plant d.now r) (λ r. IsPending new d.now (moved_pending to r)) (λ r both. pending-sound d.now r both.0 both.1) d.pending
            (each-both (λ r. pending_fits new to r ≡ true) (IsPending plant d.now) d.pending may.pending sound.pending)));
        numbers = Rising-same number_rank left (map (moved_txn to) left) (same-numbers left) (Rising-filter number_rank (all_stay to) d.txns sound.numbers);
        txns = each-mapped (IsTransaction new (adopted to d)) (moved_txn to) left
            (each-map (λ t. (all_stay to t ≡ true) × IsTransaction plant d t) (λ t. IsTransaction new (adopted to d) (moved_txn to t))
            (λ t both. txn-sound d renumbering all t both.0 both.1) left
            (each-both (λ t. all_stay to t ≡ true) (IsTransaction plant d) left (each-passed (λ t. all_stay to t ≡ true) (all_stay to) (λ t there. there) d.txns) (each-filter (IsTransaction plant d) (all_stay to) d.txns sound.txns)));
        open_parts = each-in_order (λ l. has_part is_none (map (moved_txn to) left) l.txn l.point l.priority ≡ true) lease_slot (map (moved_lease to) d.leases)
            (each-mapped (λ l. has_part is_none (map (moved_txn to) left) l.txn l.point l.priority ≡ true) (moved_lease to) d.leases
            (each-map (λ l. ((stays to l.point ≡ true) × Stay to is_none l.txn d.txns) × (has_part is_none d.txns l.txn l.point l.priority ≡ true))
            (λ l. has_part is_none (map (moved_txn to) left) l.txn (at to l.point) l.priority ≡ true)
            (λ l both. has_part-moved to (length new) renumbering is_none l.txn l.point l.priority d.txns both.0.0 both.0.1 ∙ both.1) d.leases
            (each-both (λ l. (stays to l.point ≡ true) × Stay to is_none l.txn d.txns) (λ l. has_part is_none d.txns l.txn l.point l.priority ≡ true) d.leases
            (each-both (λ l. stays to l.point ≡ true) (λ l. Stay to is_none l.txn d.txns) d.leases all (leases-records-stay plant new to d sound may)) sound.open_parts)));
        ended_parts = each-in_order (λ r. has_part (is_start r.start) (map (moved_txn to) left) r.txn r.point r.priority ≡ true) pending_slot (map (moved_pending to) d.pending)
            (each-mapped (λ r. has_part (is_start r.start) (map (moved_txn to) left) r.txn r.point r.priority ≡ true) (moved_pending to) d.pending
            (each-map (λ r. ((stays to r.point ≡ true) × Stay to (is_start r.start) r.txn d.txns) × (has_part (is_start r.start) d.txns r.txn r.point r.priority ≡ true))
            (λ r. has_part (is_start r.start) (map (moved_txn to) left) r.txn (at to r.point) r.priority ≡ true)
            (λ r both. has_part-moved to (length new) renumbering (is_start r.start) r.txn r.point r.priority d.txns both.0.0 both.0.1 ∙ both.1) d.pending
            (each-both (λ r. (stays to r.point ≡ true) × Stay to (is_start r.start) r.txn d.txns) (λ r. has_part (is_start r.start) d.txns r.txn r.point r.priority ≡ true) d.pending
            (each-both (λ r. stays to r.point ≡ true) (λ r. Stay to (is_start r.start) r.txn d.txns) d.pending all_pending (pending-records-stay plant new to d sound may)) sound.ended_parts)));
        done = each-mapped (λ t. member t.txn (filter (is_kept left) d.done) ≡ not (lives t.txn after)) (moved_txn to) left
            (each-map (λ t. (is_kept left t.txn ≡ true) × (member t.txn d.done ≡ not (lives t.txn cs))) (λ t. member t.txn (filter (is_kept left) d.done) ≡ not (lives t.txn after))
            (λ t both. member-filter t.txn (is_kept left) d.done ∙ ap (λ b. b && member t.txn d.done) both.0 ∙ both.1 ∙ ap not (sym (lives-moved to t.txn d.pending d.leases))) left
            (each-both (λ t. is_kept left t.txn ≡ true) (λ t. member t.txn d.done ≡ not (lives t.txn cs)) left (each-kept left)
            (each-filter (λ t. member t.txn d.done ≡ not (lives t.txn cs)) (all_stay to) d.txns sound.done)));
        few_done = omega arith;
        done_once = Distinct-filter (is_kept left) d.done sound.done_once;
        done_known = each-passed (λ txn. is_kept (map (moved_txn to) left) txn ≡ true) (is_kept left) (λ txn there. is_kept-moved to left txn ∙ there) d.done;
        few_processes = omega arith;
        names = subst DistinctNames (names-stay to d.processes) sound.names;
        processes = each-mapped (IsProcess new d.now) (moved_process to) d.processes
            (each-map (IsProcess plant d.now) (λ p. IsProcess new d.now (moved_process to p)) (λ p is. process-sound to plant new d.now renumbering p is) d.processes sound.processes);
      }

-- over two catalogues
pub adoption-sound : (old new : Catalogue) (d : Persistent) → DistinctNames (map (λ point. point.name) old.points) → IsSoundPersistent (actuators old) d →
    in_use (renumbered old new) d ≡ None → unfit (actuators new) (renumbered old new) d ≡ None → IsSoundPersistent (actuators new) (adopted (renumbered old new) d)
adoption-sound old new d apart sound unused fit = adopted-sound (actuators old) (actuators new) (renumbered old new) d (is-renumbering old new apart)
    (may-move (renumbered old new) (actuators new) d unused fit) sound
