use Rattle.std.proofs.Common.{◌≡◌, map, ap, ◌∙◌}
use Rattle.std.specs.List.{filter}
use Rattle.boss_model.specs.Order.{in_order}
use Rattle.boss_model.specs.Seen.{seen_txn, seen_process}
use Rattle.boss_model.specs.Sound.{is_kept}
use Rattle.boss_model.specs.State.{lease_slot, pending_slot}
use Rattle.law_time.proofs.Filters.{filter-alike}
use Rattle.law_adoption.specs.Adopted.{moved_lease, moved_pending, moved_txn, staying, moved_process}
use Rattle.law_adoption.proofs.MovedRecords.{is_kept-moved}
use Rattle.boss_adopting.specs.Places.{places_of}
use Rattle.boss_adopting.proofs.moving.moved_state.Goals as goal

pub leases_in_order-requires : goal.leases_in_order-requires
leases_in_order-requires c = rw c.slice.ensures c.requires.leases

pub pending_in_order-requires : goal.pending_in_order-requires
pending_in_order-requires c = rw c.slice-2.ensures c.requires.pending

pub with_records-requires : goal.with_records-requires
with_records-requires c = rw (c.deref.ensures.value, c.in_ok-txns.ensures, c.slice-3.ensures) c.requires.txns

pub returns : goal.returns
returns c =
    let to = places_of c.args.numbering.now in
    let kept = c.args.kept.now in
    let left = staying to (map seen_txn kept.txns) in
    let txns : map seen_txn c.in_ok-txns.txns.items ≡ map (moved_txn to) left = c.in_ok-txns.ensures ∙ ap (λ ts. map (moved_txn to) (staying to (map seen_txn ts))) c.slice-3.ensures in
    let done : c.in_ok-done.done.items ≡ filter (is_kept left) kept.done =
    c.in_ok-done.ensures
    ∙ ap (λ ts. filter (is_kept ts) c.slice-4.result.now) (ap (map seen_txn) c.deref.ensures.value ∙ txns)
    ∙ filter-alike (is_kept (map (moved_txn to) left)) (is_kept left) (is_kept-moved to left) c.slice-4.result.now
    ∙ ap (filter (is_kept left)) c.slice-4.ensures in
    λ i. record {
      now = kept.now;
      next = kept.next;
      leases = (c.from_vec-4.ensures ∙ c.in_ok-leases.ensures ∙ ap (λ ls. in_order lease_slot (map (moved_lease to) ls)) c.slice.ensures) i;
      pending = (c.from_vec-5.ensures ∙ c.in_ok-pending.ensures ∙ ap (λ rs. in_order pending_slot (map (moved_pending to) rs)) c.slice-2.ensures) i;
      txns = (ap (map seen_txn) c.from_vec-2.ensures ∙ txns) i;
      done = (c.from_vec-3.ensures ∙ done) i;
      processes = (ap (map seen_process) c.from_vec.ensures ∙ c.in_ok-processes.ensures ∙ ap (λ ps. map (moved_process to) (map seen_process ps)) c.slice-5.ensures) i;
    }
