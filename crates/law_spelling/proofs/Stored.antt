-- What is sound is within its ranges.
use Rattle.std.proofs.Common.{◌≡◌, ℕ, ◌+◌, ◌<◌, ◌≤◌, ◌==◌, List, [], ◌∷◌, length, Bool, true, false, Option, Some, None, is_none, sym, subst, arith}
use Rattle.std.specs.List.{AllByRecursion}
use Rattle.std.proofs.lemmas.Bool.{cond_both}
use Rattle.std.proofs.lemmas.Bool.Decides.{nat_tests}
use Rattle.boss_model.specs.declared.notice.Notice.{Notice}
use Rattle.boss_model.specs.declared.notice.What.{What}
use Rattle.boss_model.specs.declared.notice.What.TheVariants as what
use Rattle.boss_model.specs.declared.state.Actuator.{Actuator}
use Rattle.boss_model.specs.declared.state.Lease.{Lease}
use Rattle.boss_model.specs.declared.state.Pending.{Pending}
use Rattle.boss_model.specs.Limits.{longest_lease, most_processes, last_moment}
use Rattle.boss_model.specs.Records.{End, Part, Transaction}
use Rattle.boss_model.specs.Reversions.{reversion_of, courses}
use Rattle.boss_model.specs.Sound.{IsWord, IsLease, IsPending, IsPast, IsEnd, IsPart, IsTransaction, IsKnown, IsWhat, IsNotice, IsProcess, has_part, is_start, is_kept, IsSoundPersistent}
use Rattle.boss_model.specs.State.{Process, Persistent}
use Rattle.law_time.proofs.NothingDue.{of-pending, of-leases}
use Rattle.law_time.proofs.Orders.{each-map, each-both}
use Rattle.law_time.proofs.TickSound.{numbers-fit, lease-numbers, pending-numbers, word-of, known-lease, known-pending}
use Rattle.law_soundness.proofs.SubmitSound.{kept-number}
use Rattle.boss_model.specs.Plants.{IsPlant}
use Rattle.law_spelling.specs.Ranges.{IsOwner, IsStoredLease, IsStoredPending, IsStoredEnd, IsStoredPart, IsStoredTransaction, IsStoredWhat, IsStoredNotice, IsStoredProcess, IsStorable}
use Rattle.law_spelling.proofs.Counting.{few-slots, few-records}
use Rattle.law_spelling.proofs.Values.{level-of, value-at, point-of, steps-of}

-- a fact of each of some and each of others, told the other way round
turned : {X Y : Type 0} (R : X → Y → Type 0) (xs : List X) (ys : List Y) → AllByRecursion (λ x. AllByRecursion (R x) ys) xs → AllByRecursion (λ y. AllByRecursion (λ x. R x y) xs) ys
turned R xs [] all = tt
turned R xs (y ∷ ys) all =
    (each-map (λ x. AllByRecursion (R x) (y ∷ ys)) (λ x. R x y) (λ x each. each.0) xs all, turned R xs ys (each-map (λ x. AllByRecursion (R x) (y ∷ ys)) (λ x. AllByRecursion (R x) ys) (λ x each. each.1) xs all))

module _ (plant : List Actuator) (whole : IsPlant plant) (d : Persistent) (sound : IsSoundPersistent plant d) where
  now-word : (n : ℕ) → n ≤ d.now → IsWord n
  now-word n past = let now : d.now ≤ last_moment = sound.now in omega arith

  owner-of : (owner : ℕ) → owner < length d.processes → IsOwner owner
  owner-of owner known = let few : length d.processes ≤ most_processes = sound.few_processes in omega arith

  -- ---- the owner of a course is that of its record

  abbrev Owned : Transaction → Pending → Type 0
  Owned t c = (t.owner < length d.processes) × (c.txn ≡ t.txn → c.owner ≡ t.owner)

  owned-by : (test : Option End → Bool) (ts : List Transaction) (c : Pending) (point priority : ℕ) → AllByRecursion (λ t. Owned t c) ts → has_part test ts c.txn point priority ≡ true → c.owner < length d.processes
  owned-by test [] c point priority owned has = cc
  owned-by test (t ∷ ts) c point priority owned has =
      cond_both (t.txn == c.txn) true false (λ b. (t.txn == c.txn) ≡ b → c.owner < length d.processes)
      (λ is _. let same : c.txn ≡ t.txn = grind (arith, nat_tests) in subst (λ k. k < length d.processes) (sym (owned.0.1 same)) owned.0.0)
      (λ other _. owned-by test ts c point priority owned.1 (grind (arith))) (grind (arith))

  owners : AllByRecursion (λ c. AllByRecursion (λ t. Owned t c) d.txns) (courses d.pending d.leases)
  owners = turned Owned d.txns (courses d.pending d.leases) (each-map (IsTransaction plant d) (λ t. AllByRecursion (Owned t) (courses d.pending d.leases))
      (λ t is. each-map (λ c. c.txn ≡ t.txn → c.owner ≡ t.owner) (Owned t) (λ c own. (is.owner, own)) (courses d.pending d.leases) is.owned) d.txns sound.txns)

  lease-owners : AllByRecursion (λ l. l.owner < length d.processes) d.leases
  lease-owners =
      let A = λ (l : Lease). AllByRecursion (λ t. Owned t (reversion_of l)) d.txns in
      let B = λ (l : Lease). has_part is_none d.txns l.txn l.point l.priority ≡ true in
      each-map (λ l. A l × B l) (λ l. l.owner < length d.processes) (λ l both. owned-by is_none d.txns (reversion_of l) l.point l.priority both.0 both.1) d.leases
      (each-both A B d.leases (of-leases (λ c. AllByRecursion (λ t. Owned t c) d.txns) d.pending d.leases owners) sound.open_parts)

  pending-owners : AllByRecursion (λ r. r.owner < length d.processes) d.pending
  pending-owners =
      let A = λ (r : Pending). AllByRecursion (λ t. Owned t r) d.txns in
      let B = λ (r : Pending). has_part (is_start r.start) d.txns r.txn r.point r.priority ≡ true in
      each-map (λ r. A r × B r) (λ r. r.owner < length d.processes) (λ r both. owned-by (is_start r.start) d.txns r r.point r.priority both.0 both.1) d.pending
      (each-both A B d.pending (of-pending A d.pending d.leases owners) sound.ended_parts)

  -- ---- leases and reversions

  stored-lease : (l : Lease) → IsLease plant d.now l → l.txn < d.next → l.owner < length d.processes → IsStoredLease l
  stored-lease l is number owner =
      let soon : l.until ≤ d.now + longest_lease = is.soon in
      let now : d.now ≤ last_moment = sound.now in
      record {
        txn = word-of d.next l.txn sound.next number;
        owner = owner-of l.owner owner;
        point = point-of plant whole l.point (known-lease plant d.now l is);
        priority = level-of l.priority is.level;
        value = value-at plant whole l.point l.value is.fitting;
        until = omega arith;
        revert = steps-of plant whole l.point l.revert is.reverting;
      }

  stored-leases : AllByRecursion IsStoredLease d.leases
  stored-leases = each-map (λ l. IsLease plant d.now l × ((l.txn < d.next) × (l.owner < length d.processes))) IsStoredLease (λ l all. stored-lease l all.0 all.1.0 all.1.1) d.leases
      (each-both (IsLease plant d.now) (λ l. (l.txn < d.next) × (l.owner < length d.processes)) d.leases sound.leases
      (each-both (λ l. l.txn < d.next) (λ l. l.owner < length d.processes) d.leases (lease-numbers plant d sound) lease-owners))

  stored-pending : (r : Pending) → IsPending plant d.now r → r.txn < d.next → r.owner < length d.processes → IsStoredPending r
  stored-pending r is number owner = record {
    txn = word-of d.next r.txn sound.next number;
    owner = owner-of r.owner owner;
    point = point-of plant whole r.point (known-pending plant d.now r is);
    priority = level-of r.priority is.level;
    steps = steps-of plant whole r.point r.steps is.steps;
    start = now-word r.start is.started;
  }

  stored-reversions : AllByRecursion IsStoredPending d.pending
  stored-reversions = each-map (λ r. IsPending plant d.now r × ((r.txn < d.next) × (r.owner < length d.processes))) IsStoredPending (λ r all. stored-pending r all.0 all.1.0 all.1.1) d.pending
      (each-both (IsPending plant d.now) (λ r. (r.txn < d.next) × (r.owner < length d.processes)) d.pending sound.pending
      (each-both (λ r. r.txn < d.next) (λ r. r.owner < length d.processes) d.pending (pending-numbers plant d sound) pending-owners))

  -- ---- records

  stored-end : (end : Option End) → IsPast d.now end → IsEnd end → IsStoredEnd end
  stored-end None past why = tt
  stored-end (Some end) past why = (why, now-word end.at past)

  stored-part : (txn : ℕ) (part : Part) → IsPart plant d.now txn d.leases part → IsStoredPart part
  stored-part txn part is = record { point = point-of plant whole part.point is.known; priority = is.priority; end = stored-end part.end is.past is.why }

  stored-transaction : (t : Transaction) → IsTransaction plant d t → IsStoredTransaction t
  stored-transaction t is = record {
    txn = word-of d.next t.txn sound.next is.given;
    owner = owner-of t.owner is.owner;
    some_part = is.some_part;
    few_parts = is.few_parts;
    parts = each-map (IsPart plant d.now t.txn d.leases) IsStoredPart (λ part p. stored-part t.txn part p) t.parts is.parts;
  }

  -- ---- processes

  stored-what : (told : What) → IsKnown (length plant) told → IsWhat told → IsStoredWhat told
  stored-what (what.Fault point) known words = point-of plant whole point known
  stored-what (what.Ended point why) known words = (point-of plant whole point known, words)
  stored-what (what.Reverted point) known words = point-of plant whole point known
  stored-what (what.Cut point by) known words = (point-of plant whole point known, words)
  stored-what what.Done known words = tt

  stored-notice : (n : Notice) → n.at ≤ d.now → IsKnown (length plant) n.what → IsNotice n → IsStoredNotice n
  stored-notice n past known words = record { at = now-word n.at past; txn = words.0; told = stored-what n.what known words.1 }

  stored-process : (p : Process) → IsProcess plant d.now p → IsStoredProcess p
  stored-process p is =
      let A = λ (n : Notice). n.at ≤ d.now in
      let B = λ (n : Notice). IsKnown (length plant) n.what in
      record {
        name = is.name;
        count = is.count;
        few = is.few;
        sent = is.sent;
        numbers = is.numbers;
        notices = each-map (λ n. A n × (B n × IsNotice n)) IsStoredNotice (λ n all. stored-notice n all.0 all.1.0 all.1.1) p.kept
            (each-both A (λ n. B n × IsNotice n) p.kept is.past (each-both B IsNotice p.kept is.known is.words));
        reply = is.reply;
      }

  pub storable : IsStorable d
  storable = record {
    now = sound.now;
    next = sound.next;
    few_slots = few-slots plant d whole sound;
    leases = stored-leases;
    pending = stored-reversions;
    few_txns = few-records plant d whole sound;
    txns = each-map (IsTransaction plant d) IsStoredTransaction stored-transaction d.txns sound.txns;
    few_done = sound.few_done;
    done = each-map (λ txn. is_kept d.txns txn ≡ true) IsWord (λ txn there. word-of d.next txn sound.next (kept-number d.next d.txns txn (numbers-fit plant d sound) there)) d.done sound.done_known;
    few_processes = sound.few_processes;
    processes = each-map (IsProcess plant d.now) IsStoredProcess stored-process d.processes sound.processes;
  }
