-- The test of a whole state tells that it is sound, and a sound state passes it.
use Rattle.std.proofs.Common.{◌≡◌, ◌<◌, ◌≤◌, ◌==◌, List, [], ◌∷◌, length, map, true, not, ◌&&◌, is_none, ap, sym, ◌∙◌, subst}
use Rattle.std.proofs.lemmas.List.{length-map}
use Rattle.std.specs.Prelude.{nat_le}
use Rattle.std.specs.List.{list_all, AllByRecursion}
use Rattle.boss_model.specs.declared.kept.Kept.{Kept}
use Rattle.boss_model.specs.declared.kept.KeptTxn.{KeptTxn}
use Rattle.boss_model.specs.declared.state.Actuator.{Actuator}
use Rattle.boss_model.specs.declared.state.Pending.{Pending}
use Rattle.boss_model.specs.Happenings.{lives}
use Rattle.boss_model.specs.Limits.{done_kept, most_writes, most_processes, last_moment, last_number}
use Rattle.boss_model.specs.Lists.{member}
use Rattle.boss_model.specs.Reversions.{courses}
use Rattle.boss_model.specs.Seen.{seen, seen_part, seen_txn, seen_process}
use Rattle.boss_model.specs.Sound.{Rising, IsLease, IsPending, IsPart, IsTransaction, IsProcess, has_part, is_start as starts, is_kept, number_rank, IsSoundPersistent}
use Rattle.boss_model.specs.State.{lease_slot, pending_slot}
use Rattle.law_time.proofs.Filters.{each-mapped, each-unmapped, each-found}
use Rattle.law_time.proofs.GroupSound.{got}
use Rattle.law_time.proofs.NothingDue.{of-pending, of-leases}
use Rattle.law_time.proofs.Orders.{each-map}
use Rattle.law_time.proofs.Slots.{to-courses}
use Rattle.boss_state_check.specs.Searches.{rises, kept_rank, is_held, transaction_of}
use Rattle.boss_state_check.specs.Tests.{is_lease, is_pending, is_alone, is_transaction, is_told_lease, is_start, is_told_pending, are_distinct, is_recorded, is_living, is_settled, is_process, have_own_names}
use Rattle.boss_state_check.specs.Whole.{numbers_pass, orders_pass, slots_pass, records_pass, done_passes, processes_pass, all_pass}
use Rattle.boss_state_check.proofs.Tested.{both, beq-same, same-beq, le, is-le, each-of, each-tests, each-place, some-found}
use Rattle.boss_state_check.proofs.Ranked.{rising-of, rises-of}
use Rattle.boss_state_check.proofs.Items.{lease-of, lease-tests, pending-of, pending-tests, process-of, process-tests, names-of, names-tests}
use Rattle.boss_state_check.proofs.Alone.{none-seen, held-same, IsAlone, record-of, record-tests}
use Rattle.boss_state_check.proofs.Told.{own-found, found-number, recorded-same, part_in, has-same, start-seen, lease-told, lease-found, lease-tells, pending-told, pending-found, pending-tells}
use Rattle.boss_state_check.proofs.Over.{slots-of, slots-tests, distinct-of, distinct-tests, living-same}

-- ---- order

rising-mapped : (ts : List KeptTxn) → Rising kept_rank ts → Rising number_rank (map seen_txn ts)
rising-mapped [] up = tt
rising-mapped (t ∷ ts) up = (each-mapped _ seen_txn ts up.0, rising-mapped ts up.1)

rising-unmapped : (ts : List KeptTxn) → Rising number_rank (map seen_txn ts) → Rising kept_rank ts
rising-unmapped [] up = tt
rising-unmapped (t ∷ ts) up = (each-unmapped _ seen_txn ts up.0, rising-unmapped ts up.1)

pub record IsOrderly (kept : Kept) : Type 0 where
  pub leases : Rising lease_slot kept.leases
  pub pending : Rising pending_slot kept.pending
  pub txns : Rising kept_rank kept.txns

pub orders-of : (kept : Kept) → orders_pass kept ≡ true → IsOrderly kept
orders-of kept is =
    let a = both (rises lease_slot kept.leases && rises pending_slot kept.pending) (rises kept_rank kept.txns) is in
    let b = both (rises lease_slot kept.leases) (rises pending_slot kept.pending) a.0 in
    record { leases = rising-of lease_slot kept.leases b.0; pending = rising-of pending_slot kept.pending b.1; txns = rising-of kept_rank kept.txns a.1 }

pub now-of : (kept : Kept) → numbers_pass kept ≡ true → kept.now ≤ last_moment
now-of kept is = le kept.now last_moment (both (nat_le kept.now last_moment) (nat_le 1 kept.next) (both (nat_le kept.now last_moment && nat_le 1 kept.next) (nat_le kept.next last_number) is).0).0

module _ (plant : List Actuator) (kept : Kept) where
  abbrev all_courses : List Pending
  all_courses = courses kept.pending kept.leases

  -- the parts of a record have no end where its transaction has a lease
  opens : Rising lease_slot kept.leases → (t : KeptTxn) → AllByRecursion (λ part. IsPart plant kept.now t.txn kept.leases (seen_part part)) t.parts →
      AllByRecursion (λ part. is_none part.end ≡ is_held kept.leases t.txn part.point part.priority) t.parts
  opens up t parts = each-map (λ part. IsPart plant kept.now t.txn kept.leases (seen_part part)) (λ part. is_none part.end ≡ is_held kept.leases t.txn part.point part.priority)
      (λ part is. sym (none-seen part.end) ∙ is.open_part ∙ sym (held-same kept.leases t.txn part.point part.priority up)) t.parts parts

  -- ---- from the tests

  pub sound-of : all_pass plant kept ≡ true → IsSoundPersistent plant (seen kept)
  sound-of is =
      let e = both (numbers_pass kept && orders_pass kept && slots_pass plant kept && records_pass plant kept && done_passes kept) (processes_pass plant kept) is in
      let f = both (numbers_pass kept && orders_pass kept && slots_pass plant kept && records_pass plant kept) (done_passes kept) e.0 in
      let g = both (numbers_pass kept && orders_pass kept && slots_pass plant kept) (records_pass plant kept) f.0 in
      let h = both (numbers_pass kept && orders_pass kept) (slots_pass plant kept) g.0 in
      let k = both (numbers_pass kept) (orders_pass kept) h.0 in
      let numbers = both (nat_le kept.now last_moment && nat_le 1 kept.next) (nat_le kept.next last_number) k.0 in
      let up = orders-of kept k.1 in
      let slots = both (list_all (is_lease plant kept.now) kept.leases && list_all (is_pending plant kept.now) kept.pending) (list_all (is_alone kept.leases) kept.pending) h.1 in
      let items = both (list_all (is_lease plant kept.now) kept.leases) (list_all (is_pending plant kept.now) kept.pending) slots.0 in
      let records = both (list_all (is_transaction plant kept) kept.txns && list_all (is_told_lease kept.txns) kept.leases) (list_all (is_told_pending kept.txns) kept.pending) g.1 in
      let leases = both (list_all (is_transaction plant kept) kept.txns) (list_all (is_told_lease kept.txns) kept.leases) records.0 in
      let settled = both (nat_le (length kept.done) done_kept && are_distinct kept.done && list_all (is_recorded kept.txns) kept.done) (list_all (is_settled kept.pending kept.done) kept.txns) f.1 in
      let recorded = both (nat_le (length kept.done) done_kept && are_distinct kept.done) (list_all (is_recorded kept.txns) kept.done) settled.0 in
      let distinct = both (nat_le (length kept.done) done_kept) (are_distinct kept.done) recorded.0 in
      let processes = both (nat_le (length kept.processes) most_processes && have_own_names kept.processes) (list_all (is_process (length plant) kept.now) kept.processes) e.1 in
      let names = both (nat_le (length kept.processes) most_processes) (have_own_names kept.processes) processes.0 in
      let told-leases = each-of (λ l. is_told_lease kept.txns l ≡ true) (is_told_lease kept.txns) (λ l told. told) kept.leases leases.1 in
      let told-pending = each-of (λ r. is_told_pending kept.txns r ≡ true) (is_told_pending kept.txns) (λ r told. told) kept.pending records.1 in
      let alone = each-of (λ r. is_alone kept.leases r ≡ true) (is_alone kept.leases) (λ r free. free) kept.pending slots.1 in
      let each = each-of (IsAlone plant kept) (is_transaction plant kept) (record-of plant kept up.leases) kept.txns leases.0 in
      let over = each-of (λ t. is_settled kept.pending kept.done t ≡ true) (is_settled kept.pending kept.done) (λ t is. is) kept.txns settled.1 in
      record {
        now = le kept.now last_moment (both (nat_le kept.now last_moment) (nat_le 1 kept.next) numbers.0).0;
        first = le 1 kept.next (both (nat_le kept.now last_moment) (nat_le 1 kept.next) numbers.0).1;
        next = le kept.next last_number numbers.1;
        lease_slots = up.leases;
        pending_slots = up.pending;
        slots = slots-of kept.pending kept.leases up.pending up.leases alone;
        leases = each-of (IsLease plant kept.now) (is_lease plant kept.now) (lease-of plant kept.now) kept.leases items.0;
        pending = each-of (IsPending plant kept.now) (is_pending plant kept.now) (pending-of plant kept.now) kept.pending items.1;
        numbers = rising-mapped kept.txns up.txns;
        txns = each-mapped (IsTransaction plant (seen kept)) seen_txn kept.txns (each-place (λ t. IsTransaction plant (seen kept) (seen_txn t)) kept.txns
            (λ place t there.
            let alone = got (IsAlone plant kept) kept.txns place t there each in
            let own = own-found kept.txns place t up.txns there in
            record {
              numbered = alone.numbered;
              given = alone.given;
              owner = subst (λ n. t.owner < n) (sym (length-map kept.processes seen_process)) alone.owner;
              some_part = subst (λ n. 1 ≤ n) (sym (length-map t.parts seen_part)) alone.some_part;
              few_parts = subst (λ n. n ≤ most_writes) (sym (length-map t.parts seen_part)) alone.few_parts;
              points = alone.points;
              parts = each-mapped (IsPart plant kept.now t.txn kept.leases) seen_part t.parts alone.parts;
              owned = to-courses (λ r. r.txn ≡ t.txn → r.owner ≡ t.owner) kept.pending kept.leases
                  (each-map (λ r. is_told_pending kept.txns r ≡ true) (λ r. r.txn ≡ t.txn → r.owner ≡ t.owner) (λ r told same. sym (pending-told kept.txns r told t own same).0) kept.pending told-pending)
                  (each-map (λ l. is_told_lease kept.txns l ≡ true) (λ l. l.txn ≡ t.txn → l.owner ≡ t.owner) (λ l told same. sym (lease-told kept.txns l told t own same).0) kept.leases told-leases);
              policies = each-map (λ l. is_told_lease kept.txns l ≡ true) (λ l. l.txn ≡ t.txn → l.policy ≡ t.policy) (λ l told same. (lease-told kept.txns l told t own same).1) kept.leases told-leases;
            }));
        open_parts = each-map (λ l. is_told_lease kept.txns l ≡ true) (λ l. has_part is_none (map seen_txn kept.txns) l.txn l.point l.priority ≡ true)
            (λ l told. has-same is_none is_none none-seen kept.txns l.txn l.point l.priority up.txns ∙ lease-found kept.txns l told) kept.leases told-leases;
        ended_parts = each-map (λ r. is_told_pending kept.txns r ≡ true) (λ r. has_part (starts r.start) (map seen_txn kept.txns) r.txn r.point r.priority ≡ true)
            (λ r told. has-same (starts r.start) (is_start r.start) (start-seen r.start) kept.txns r.txn r.point r.priority up.txns ∙ pending-found kept.txns r told) kept.pending told-pending;
        done = each-mapped (λ t. member t.txn kept.done ≡ not (lives t.txn all_courses)) seen_txn kept.txns (each-place (λ t. member t.txn kept.done ≡ not (lives t.txn all_courses)) kept.txns
            (λ place t there.
            let living = living-same kept.txns kept.pending kept.leases up.txns up.pending told-leases told-pending place t there
            (opens up.leases t (got (IsAlone plant kept) kept.txns place t there each).parts) in
            beq-same (member t.txn kept.done) (not (is_living kept.pending t)) (got (λ t. is_settled kept.pending kept.done t ≡ true) kept.txns place t there over) ∙ ap not living));
        few_done = le (length kept.done) done_kept distinct.0;
        done_once = distinct-of kept.done distinct.1;
        done_known = each-of (λ txn. is_kept (map seen_txn kept.txns) txn ≡ true) (is_recorded kept.txns) (λ txn is. sym (recorded-same kept.txns txn) ∙ is) kept.done recorded.1;
        few_processes = subst (λ n. n ≤ most_processes) (sym (length-map kept.processes seen_process)) (le (length kept.processes) most_processes names.0);
        names = names-of kept.processes names.1;
        processes = each-mapped (IsProcess plant kept.now) seen_process kept.processes
            (each-of (λ p. IsProcess plant kept.now (seen_process p)) (is_process (length plant) kept.now) (process-of plant kept.now) kept.processes processes.1);
      }

  -- ---- to the tests

  module _ (sound : IsSoundPersistent plant (seen kept)) where
    up_txns : Rising kept_rank kept.txns
    up_txns = rising-unmapped kept.txns sound.numbers

    records : AllByRecursion (λ t. IsTransaction plant (seen kept) (seen_txn t)) kept.txns
    records = each-unmapped (IsTransaction plant (seen kept)) seen_txn kept.txns sound.txns

    alone-tests : (t : KeptTxn) → IsTransaction plant (seen kept) (seen_txn t) → IsAlone plant kept t
    alone-tests t is = record {
      numbered = is.numbered;
      given = is.given;
      owner = subst (λ n. t.owner < n) (length-map kept.processes seen_process) is.owner;
      some_part = subst (λ n. 1 ≤ n) (length-map t.parts seen_part) is.some_part;
      few_parts = subst (λ n. n ≤ most_writes) (length-map t.parts seen_part) is.few_parts;
      points = is.points;
      parts = each-unmapped (IsPart plant kept.now t.txn kept.leases) seen_part t.parts is.parts;
    }

    told-leases : AllByRecursion (λ l. is_told_lease kept.txns l ≡ true) kept.leases
    told-leases = each-place (λ l. is_told_lease kept.txns l ≡ true) kept.leases (λ place l there.
        let has = got (λ l. has_part is_none (map seen_txn kept.txns) l.txn l.point l.priority ≡ true) kept.leases place l there sound.open_parts in
        let t = some-found (part_in is_none l.point l.priority) (transaction_of kept.txns l.txn) (sym (has-same is_none is_none none-seen kept.txns l.txn l.point l.priority up_txns) ∙ has) in
        let is = each-found (λ t. IsTransaction plant (seen kept) (seen_txn t)) (λ t. t.txn == l.txn) kept.txns t.0 records t.1 in
        let same : l.txn ≡ t.0.txn = sym (found-number kept.txns l.txn t.0 t.1) in
        let owner = got (λ l. l.txn ≡ t.0.txn → l.owner ≡ t.0.owner) kept.leases place l there (of-leases (λ r. r.txn ≡ t.0.txn → r.owner ≡ t.0.owner) kept.pending kept.leases is.owned) same in
        let policy = got (λ l. l.txn ≡ t.0.txn → l.policy ≡ t.0.policy) kept.leases place l there is.policies same in
        lease-tells kept.txns l t.0 t.1 (sym owner) policy t.2)

    told-pending : AllByRecursion (λ r. is_told_pending kept.txns r ≡ true) kept.pending
    told-pending = each-place (λ r. is_told_pending kept.txns r ≡ true) kept.pending (λ place r there.
        let has = got (λ r. has_part (starts r.start) (map seen_txn kept.txns) r.txn r.point r.priority ≡ true) kept.pending place r there sound.ended_parts in
        let t = some-found (part_in (is_start r.start) r.point r.priority) (transaction_of kept.txns r.txn)
        (sym (has-same (starts r.start) (is_start r.start) (start-seen r.start) kept.txns r.txn r.point r.priority up_txns) ∙ has) in
        let is = each-found (λ t. IsTransaction plant (seen kept) (seen_txn t)) (λ t. t.txn == r.txn) kept.txns t.0 records t.1 in
        let same : r.txn ≡ t.0.txn = sym (found-number kept.txns r.txn t.0 t.1) in
        let owner = got (λ r. r.txn ≡ t.0.txn → r.owner ≡ t.0.owner) kept.pending place r there (of-pending (λ r. r.txn ≡ t.0.txn → r.owner ≡ t.0.owner) kept.pending kept.leases is.owned) same in
        pending-tells kept.txns r t.0 t.1 (sym owner) t.2)

    settled : AllByRecursion (λ t. is_settled kept.pending kept.done t ≡ true) kept.txns
    settled = each-place (λ t. is_settled kept.pending kept.done t ≡ true) kept.txns (λ place t there.
        let over = got (λ t. member t.txn kept.done ≡ not (lives t.txn all_courses)) kept.txns place t there
        (each-unmapped (λ t. member t.txn kept.done ≡ not (lives t.txn all_courses)) seen_txn kept.txns sound.done) in
        let living = living-same kept.txns kept.pending kept.leases up_txns sound.pending_slots told-leases told-pending place t there
        (opens sound.lease_slots t (alone-tests t (got (λ t. IsTransaction plant (seen kept) (seen_txn t)) kept.txns place t there records)).parts) in
        same-beq (member t.txn kept.done) (not (is_living kept.pending t)) (over ∙ ap not (sym living)))

    numbers-yes : numbers_pass kept ≡ true
    numbers-yes = λ i. is-le kept.now last_moment sound.now i && is-le 1 kept.next sound.first i && is-le kept.next last_number sound.next i

    orders-yes : orders_pass kept ≡ true
    orders-yes = λ i. rises-of lease_slot kept.leases sound.lease_slots i && rises-of pending_slot kept.pending sound.pending_slots i && rises-of kept_rank kept.txns up_txns i

    slots-yes : slots_pass plant kept ≡ true
    slots-yes =
        let leases = each-tests (IsLease plant kept.now) (is_lease plant kept.now) (lease-tests plant kept.now) kept.leases sound.leases in
        let pending = each-tests (IsPending plant kept.now) (is_pending plant kept.now) (pending-tests plant kept.now) kept.pending sound.pending in
        let alone = each-tests (λ r. is_alone kept.leases r ≡ true) (is_alone kept.leases) (λ r free. free) kept.pending (slots-tests kept.pending kept.leases sound.slots) in
        λ i. leases i && pending i && alone i

    records-yes : records_pass plant kept ≡ true
    records-yes =
        let each = each-tests (λ t. IsTransaction plant (seen kept) (seen_txn t)) (is_transaction plant kept) (λ t is. record-tests plant kept sound.lease_slots t (alone-tests t is)) kept.txns records in
        let leases = each-tests (λ l. is_told_lease kept.txns l ≡ true) (is_told_lease kept.txns) (λ l told. told) kept.leases told-leases in
        let pending = each-tests (λ r. is_told_pending kept.txns r ≡ true) (is_told_pending kept.txns) (λ r told. told) kept.pending told-pending in
        λ i. each i && leases i && pending i

    done-yes : done_passes kept ≡ true
    done-yes =
        let known = each-tests (λ txn. is_kept (map seen_txn kept.txns) txn ≡ true) (is_recorded kept.txns) (λ txn is. recorded-same kept.txns txn ∙ is) kept.done sound.done_known in
        let over = each-tests (λ t. is_settled kept.pending kept.done t ≡ true) (is_settled kept.pending kept.done) (λ t is. is) kept.txns settled in
        λ i. is-le (length kept.done) done_kept sound.few_done i && distinct-tests kept.done sound.done_once i && known i && over i

    processes-yes : processes_pass plant kept ≡ true
    processes-yes =
        let few = is-le (length kept.processes) most_processes (subst (λ n. n ≤ most_processes) (length-map kept.processes seen_process) sound.few_processes) in
        let each = each-tests (λ p. IsProcess plant kept.now (seen_process p)) (is_process (length plant) kept.now) (process-tests plant kept.now) kept.processes
        (each-unmapped (IsProcess plant kept.now) seen_process kept.processes sound.processes) in
        λ i. few i && names-tests kept.processes sound.names i && each i

    pub sound-passes : all_pass plant kept ≡ true
    sound-passes = λ i. numbers-yes i && orders-yes i && slots-yes i && records-yes i && done-yes i && processes-yes i
