-- A submit keeps a sound persistent part sound: the change, and the whole.
use Rattle.std.proofs.Common.{◌≡◌, ℕ, ◌+◌, ◌<◌, ◌≤◌, ◌==◌, List, [], ◌∷◌, ◌++◌, length, map, Bool, true, false, not, ◌&&◌, ◌||◌, cond, Option, Some, None, is_none, unsigned_abs, refl, ap, sym, ◌∙◌, subst, arith}
use Rattle.std.specs.List.{filter, AllByRecursion, list_any}
use Rattle.std.proofs.lemmas.List.{length-map}
use Rattle.std.proofs.lemmas.Bool.{cond_both}
use Rattle.std.proofs.lemmas.Bool.Decides.{nat_tests}
use Rattle.boss_model.specs.declared.command.Policy.{Policy}
use Rattle.boss_model.specs.declared.command.Setting.{Setting}
use Rattle.boss_model.specs.declared.notice.Cause.TheVariants as cause
use Rattle.boss_model.specs.declared.notice.What.TheVariants as what
use Rattle.boss_model.specs.declared.state.Actuator.{Actuator}
use Rattle.boss_model.specs.declared.state.Lease.{Lease}
use Rattle.boss_model.specs.declared.state.Pending.{Pending}
use Rattle.boss_model.specs.Ends.{shortened_if}
use Rattle.boss_model.specs.Groups.{courses_of}
use Rattle.boss_model.specs.Happenings.{lives}
use Rattle.boss_model.specs.Limits.{most_writes, last_number}
use Rattle.boss_model.specs.Lists.{member}
use Rattle.boss_model.specs.Order.{comes_before, in_order}
use Rattle.boss_model.specs.Records.{End, Transaction}
use Rattle.boss_model.specs.Reversions.{reversion_of, courses}
use Rattle.boss_model.specs.Sound.{Distinct, IsWord, holds, IsLease, IsPending, IsPast, IsEnd, IsPart, IsTransaction, has_part, is_kept, is_start, number_rank, IsSoundPersistent}
use Rattle.boss_model.specs.State.{lease_slot, pending_slot, Persistent}
use Rattle.boss_model.specs.Submit.{lease_of, granted, part_of, begun, is_taken, superseded, cut, superseded_end, submitted}
use Rattle.boss_model.specs.Time.{lease_of_part, part_after, record_after}
use Rattle.law_soundness.proofs.ConcludeSound.{IsNews, IsNext, conclude-sound}
use Rattle.law_time.proofs.Endings.{IsEnding, part-open-after, past-after, past-ending, why-after, points-same, numbers-same, part-open-stays, start-stays}
use Rattle.law_soundness.proofs.EndSound.{IsAt, alive-not-done, news-append, ending-if}
use Rattle.law_time.proofs.Filters.{each-mapped, each-unmapped, each-always, Apart}
use Rattle.law_time.proofs.GroupSound.{IsChange, IsTidings, IsTold, transaction-in}
use Rattle.law_time.proofs.NothingDue.{of-pending, of-leases}
use Rattle.law_soundness.proofs.NotRefused.{IsWrite, IsSubmit, level-byte}
use Rattle.law_time.proofs.Orders.{each-map, each-filter, each-passed, each-both, each-append, each-in_order, Rising-filter}
use Rattle.law_time.proofs.Places.{member-each}
use Rattle.law_time.proofs.Slots.{Rising-same, any-in_order, any-append, lives-courses, to-courses, self-found, kept-after, has-after, has-number}
use Rattle.law_soundness.proofs.SubmitSound.{apart-turn, Pairs-Rising, Rising-Pairs, Pairs-unordered, Pairs-append, Pairs-front, Pairs-cross, Pairs-map, not-taken, not-broken, new-apart, new-held, new-others, new-lives, new-parts, new-points, new-lease, left-live, has-append, kept-number, Rising-snoc}
use Rattle.law_time.proofs.TickSound.{Pairs, Pairs-filter, Pairs-in_order, IsSilent, known-lease, known-pending, word-of}

-- some of a list that a test leaves
any-filtered : {X : Type 0} (test keeps : X → Bool) (xs : List X) → list_any test xs ≡ false → list_any test (filter keeps xs) ≡ false
any-filtered test keeps [] none = refl
any-filtered test keeps (x ∷ xs) none = grind (arith, any-filtered test keeps xs)

lives-mapped : (txn : ℕ) (leases : List Lease) → lives txn (map reversion_of leases) ≡ list_any (λ lease. lease.txn == txn) leases
lives-mapped txn [] = refl
lives-mapped txn (lease ∷ leases) = ap (λ b. (lease.txn == txn) || b) (lives-mapped txn leases)

module _ (plant : List Actuator) (owner : ℕ) (policy : Policy) (writes : List Setting) (n : ℕ) (d : Persistent) where
  abbrev T : ℕ
  T = d.next

  abbrev new : List Lease
  new = granted owner policy T n writes

  abbrev gone : Lease → Bool
  gone lease = is_taken new lease.point lease.priority

  abbrev broken : Pending → Bool
  broken r = is_taken new r.point r.priority

  abbrev rest : List Lease
  rest = filter (λ lease. not (gone lease)) d.leases

  abbrev how : Lease → Option End
  how = superseded_end new T n

  abbrev leases_after : List Lease
  leases_after = in_order lease_slot (rest ++ new)

  abbrev pending_after : List Pending
  pending_after = filter (λ r. not (broken r)) d.pending

  abbrev old_txns : List Transaction
  old_txns = map (record_after how d.leases) d.txns

  abbrev txns_after : List Transaction
  txns_after = old_txns ++ begun owner policy T writes ∷ []

  abbrev changed : Persistent
  changed = record d { now = n; next = T + 1; leases = leases_after; pending = pending_after; txns = txns_after }

  module _ (sound : IsSoundPersistent plant (record d { now = n })) (at : IsAt n d) (submit : IsSubmit plant writes d) (some : 1 ≤ length writes) (few : length writes ≤ most_writes)
      (known : AllByRecursion (λ w. w.point < length plant) writes) (held : owner < length d.processes) where
    -- facts of the old and the new leases
    to-leases : (P : Lease → Type 0) → AllByRecursion P rest → AllByRecursion P new → AllByRecursion P leases_after
    to-leases P p q = each-in_order P lease_slot (rest ++ new) (each-append P rest new p q)

    below : AllByRecursion (λ t. t.txn < T) old_txns
    below = each-mapped (λ t. t.txn < T) (record_after how d.leases) d.txns (each-map (IsTransaction plant (record d { now = n })) (λ t. t.txn < T) (λ t is. is.given) d.txns sound.txns)

    ending : AllByRecursion (λ lease. IsEnding n lease (shortened_if gone n lease) (how lease)) d.leases
    ending = each-map (λ lease. n < lease.until) (λ lease. IsEnding n lease (shortened_if gone n lease) (how lease)) (ending-if gone (cause.Superseded T) n) d.leases at.live

    lease-txns : AllByRecursion (λ lease. lease.txn < T) d.leases
    lease-txns = each-map (λ lease. has_part is_none d.txns lease.txn lease.point lease.priority ≡ true) (λ lease. lease.txn < T)
        (λ lease has. has-number is_none T d.txns lease.txn lease.point lease.priority
        (each-map (IsTransaction plant (record d { now = n })) (λ t. t.txn < T) (λ t is. is.given) d.txns sound.txns) has) d.leases sound.open_parts

    pending-txns : AllByRecursion (λ r. r.txn < T) d.pending
    pending-txns = each-map (λ r. has_part (is_start r.start) d.txns r.txn r.point r.priority ≡ true) (λ r. r.txn < T)
        (λ r has. has-number (is_start r.start) T d.txns r.txn r.point r.priority
        (each-map (IsTransaction plant (record d { now = n })) (λ t. t.txn < T) (λ t is. is.given) d.txns sound.txns) has) d.pending sound.ended_parts

    -- the new number fits
    new-word : IsWord T
    new-word = let most : T ≤ last_number = sound.next in omega arith

    why-taken : (b : Bool) → IsEnd (cond b (Some (record { cause = cause.Superseded T; at = n })) None)
    why-taken true = new-word
    why-taken false = tt

    whys : AllByRecursion (λ lease. IsEnd (how lease)) d.leases
    whys = each-always (λ lease. IsEnd (how lease)) (λ lease. why-taken (gone lease)) d.leases

    -- who holds a slot after
    held-after : (txn point priority : ℕ) → holds leases_after txn point priority ≡ (holds rest txn point priority || holds new txn point priority)
    held-after txn point priority =
        any-in_order (λ lease. (lease.txn == txn) && ((lease.point == point) && (lease.priority == priority))) lease_slot (rest ++ new)
        ∙ any-append (λ lease. (lease.txn == txn) && ((lease.point == point) && (lease.priority == priority))) rest new

    new-is-T : AllByRecursion (λ lease. lease.txn ≡ T) new
    new-is-T = each-mapped (λ lease. lease.txn ≡ T) (lease_of owner policy T n) writes (each-always (λ w. T ≡ T) (λ w. refl) writes)

    -- a transaction of an earlier number that lives after lived before
    lived : (txn : ℕ) → txn < T → lives txn (courses pending_after leases_after) ≡ true → lives txn (courses d.pending d.leases) ≡ true
    lived txn early alive =
        let other : (T == txn) ≡ false = grind (arith, nat_tests) in
        let none_new : lives txn (map reversion_of new) ≡ false = new-lives owner policy T n writes txn other in
        let after : lives txn (courses pending_after leases_after) ≡ (lives txn pending_after || (lives txn (map reversion_of rest) || lives txn (map reversion_of new))) =
        lives-courses txn pending_after leases_after ∙ ap (λ b. lives txn pending_after || b)
        (lives-mapped txn leases_after ∙ any-in_order (λ lease. lease.txn == txn) lease_slot (rest ++ new) ∙ any-append (λ lease. lease.txn == txn) rest new
        ∙ (λ i. sym (lives-mapped txn rest) i || sym (lives-mapped txn new) i)) in
        let before : lives txn (courses d.pending d.leases) ≡ (lives txn d.pending || lives txn (map reversion_of d.leases)) = lives-courses txn d.pending d.leases in
        let p : lives txn d.pending ≡ false → lives txn pending_after ≡ false = λ none. any-filtered (λ r. r.txn == txn) (λ r. not (broken r)) d.pending none in
        let q : lives txn (map reversion_of d.leases) ≡ false → lives txn (map reversion_of rest) ≡ false = λ none.
        lives-mapped txn rest ∙ any-filtered (λ lease. lease.txn == txn) (λ lease. not (gone lease)) d.leases (sym (lives-mapped txn d.leases) ∙ none) in
        grind (arith)

    old-transaction : (t : Transaction) → IsTransaction plant (record d { now = n }) t → IsTransaction plant changed (record_after how d.leases t)
    old-transaction t is =
        let given : t.txn < T = is.given in
        let other : (T == t.txn) ≡ false = grind (arith, nat_tests) in
        let W = λ (c : Pending). c.txn ≡ t.txn → c.owner ≡ t.owner in
        let V = λ (l : Lease). l.txn ≡ t.txn → l.policy ≡ t.policy in
        let pasts : AllByRecursion (λ lease. IsPast n (how lease)) d.leases = each-map (λ lease. IsEnding n lease (shortened_if gone n lease) (how lease)) (λ lease. IsPast n (how lease))
        (λ lease e. past-ending n (shortened_if gone n) how n lease (how lease) refl e (λ within. within)) d.leases ending in
        transaction-in plant (record d { now = n }) changed t (map (part_after how d.leases t.txn) t.parts) is (omega arith) is.owner (points-same how d.leases t.txn t.parts)
        (each-mapped (IsPart plant n t.txn leases_after) (part_after how d.leases t.txn) t.parts
        (each-map (IsPart plant n t.txn d.leases) (λ part. IsPart plant n t.txn leases_after (part_after how d.leases t.txn part)) (λ part p. record {
          known = p.known;
          priority = p.priority;
          open_part = part-open-after n (shortened_if gone n) how d.leases t.txn part.point part.priority part.end sound.lease_slots ending p.open_part
              ∙ ap (λ ls. holds ls t.txn part.point part.priority) (left-live gone n d.leases at.live)
              ∙ sym (held-after t.txn part.point part.priority
              ∙ ap (λ b. holds rest t.txn part.point part.priority || b) (new-others owner policy T n writes t.txn part.point part.priority other) ∙ grind (arith));
          past = past-after n (shortened_if gone n) how n n d.leases t.txn part.point part.priority part.end (omega arith) pasts p.past;
          why = why-after how d.leases t.txn part.point part.priority part.end whys p.why;
        }) t.parts is.parts))
        (to-courses W pending_after leases_after (each-filter W (λ r. not (broken r)) d.pending (of-pending W d.pending d.leases is.owned))
        (to-leases (λ l. W (reversion_of l)) (each-filter (λ l. W (reversion_of l)) (λ l. not (gone l)) d.leases (of-leases W d.pending d.leases is.owned))
        (each-map (λ l. l.txn ≡ T) (λ l. W (reversion_of l)) (λ l mine same. absurd (let both : T ≡ t.txn = sym mine ∙ same in grind (arith, nat_tests))) new new-is-T)))
        (to-leases V (each-filter V (λ l. not (gone l)) d.leases is.policies)
        (each-map (λ l. l.txn ≡ T) V (λ l mine same. absurd (let both : T ≡ t.txn = sym mine ∙ same in grind (arith, nat_tests))) new new-is-T))

    new-transaction : IsTransaction plant changed (begun owner policy T writes)
    new-transaction =
        let W = λ (c : Pending). c.txn ≡ T → c.owner ≡ owner in
        let V = λ (l : Lease). l.txn ≡ T → l.policy ≡ policy in
        record {
          numbered = sound.first;
          given = omega arith;
          owner = held;
          some_part = subst (λ k. 1 ≤ k) (sym (length-map writes part_of)) some;
          few_parts = subst (λ k. k ≤ most_writes) (sym (length-map writes part_of)) few;
          points = subst Distinct (sym (new-points owner policy T n writes)) submit.points;
          parts = each-mapped (IsPart plant n T leases_after) part_of writes
              (each-map (λ w. IsWrite plant w × ((w.point < length plant) × (holds new T w.point (unsigned_abs w.priority) ≡ true))) (λ w. IsPart plant n T leases_after (part_of w))
              (λ w both. record {
                known = both.1.0;
                priority = level-byte w.priority both.0.level;
                open_part = sym (held-after T w.point (unsigned_abs w.priority) ∙ ap (λ b. holds rest T w.point (unsigned_abs w.priority) || b) both.1.1 ∙ grind (arith));
                past = tt;
                why = tt;
              }) writes (each-both (IsWrite plant) (λ w. (w.point < length plant) × (holds new T w.point (unsigned_abs w.priority) ≡ true)) writes submit.allowed
              (each-both (λ w. w.point < length plant) (λ w. holds new T w.point (unsigned_abs w.priority) ≡ true) writes known (new-held owner policy T n writes))));
          owned = to-courses W pending_after leases_after
              (each-filter W (λ r. not (broken r)) d.pending (each-map (λ r. r.txn < T) W (λ r early same. absurd (omega arith)) d.pending pending-txns))
              (to-leases (λ l. W (reversion_of l)) (each-filter (λ l. W (reversion_of l)) (λ l. not (gone l)) d.leases (each-map (λ l. l.txn < T) (λ l. W (reversion_of l)) (λ l early same. absurd (omega arith)) d.leases lease-txns))
              (each-mapped (λ l. W (reversion_of l)) (lease_of owner policy T n) writes (each-always (λ w. W (reversion_of (lease_of owner policy T n w))) (λ w same. refl) writes)));
          policies = to-leases V (each-filter V (λ l. not (gone l)) d.leases (each-map (λ l. l.txn < T) V (λ l early same. absurd (omega arith)) d.leases lease-txns))
              (each-mapped V (lease_of owner policy T n) writes (each-always (λ w. V (lease_of owner policy T n w)) (λ w same. refl) writes));
        }

    slots-apart : Pairs (Apart lease_slot) (rest ++ new)
    slots-apart = Pairs-append (Apart lease_slot) rest new
        (Pairs-filter (Apart lease_slot) (λ lease. not (gone lease)) d.leases (Rising-Pairs lease_slot d.leases sound.lease_slots)) (new-apart owner policy T n writes submit.points)
        (each-passed (λ lease. AllByRecursion (Apart lease_slot lease) new) (λ lease. not (gone lease)) (λ lease passed. not-taken lease new (grind (arith))) d.leases)

    courses-apart : Pairs (Apart pending_slot) (pending_after ++ map reversion_of leases_after)
    courses-apart =
        let R = Apart pending_slot in
        let old : Pairs R (d.pending ++ map reversion_of d.leases) = Pairs-unordered R (apart-turn pending_slot) pending_slot (d.pending ++ map reversion_of d.leases)
        (Rising-Pairs pending_slot (courses d.pending d.leases) sound.slots) in
        let cross : AllByRecursion (λ r. AllByRecursion (R r) (map reversion_of d.leases)) d.pending = Pairs-cross R d.pending (map reversion_of d.leases) old in
        Pairs-append R pending_after (map reversion_of leases_after)
        (Pairs-filter R (λ r. not (broken r)) d.pending (Pairs-front R d.pending (map reversion_of d.leases) old))
        (Pairs-map R reversion_of leases_after (Pairs-in_order (Apart lease_slot) (apart-turn lease_slot) lease_slot (rest ++ new) slots-apart))
        (each-map (λ r. (not (broken r) ≡ true) × AllByRecursion (R r) (map reversion_of d.leases)) (λ r. AllByRecursion (R r) (map reversion_of leases_after))
        (λ r both. each-mapped (R r) reversion_of leases_after (to-leases (λ l. R r (reversion_of l))
        (each-filter (λ l. R r (reversion_of l)) (λ l. not (gone l)) d.leases (each-unmapped (R r) reversion_of d.leases both.1)) (not-broken r new (grind (arith)))))
        pending_after (each-both (λ r. not (broken r) ≡ true) (λ r. AllByRecursion (R r) (map reversion_of d.leases)) pending_after
        (each-passed (λ r. not (broken r) ≡ true) (λ r. not (broken r)) (λ r passed. passed) d.pending)
        (each-filter (λ r. AllByRecursion (R r) (map reversion_of d.leases)) (λ r. not (broken r)) d.pending cross)))

    -- the new number is not among the done
    not-yet : member T d.done ≡ false
    not-yet = cond_both (member T d.done) true false (λ b. member T d.done ≡ b → member T d.done ≡ false)
        (λ there _. absurd (let early : T < T = kept-number T d.txns T (each-map (IsTransaction plant (record d { now = n })) (λ t. t.txn < T) (λ t is. is.given) d.txns sound.txns)
        (member-each (λ k. is_kept d.txns k ≡ true) T d.done sound.done_known there) in omega arith)) (λ away _. away) (grind (arith))

    submit-change : IsChange plant changed
    submit-change =
        let begun_now = begun owner policy T writes in
        let unspent : (T == last_number) ≡ false = submit.unspent in
        let most : T ≤ last_number = sound.next in
        let found : AllByRecursion (λ lease. lease_of_part d.leases lease.txn lease.point lease.priority ≡ Some lease) d.leases = self-found d.leases sound.lease_slots in
        let F = λ (lease : Lease). lease_of_part d.leases lease.txn lease.point lease.priority ≡ Some lease in
        let O = λ (lease : Lease). has_part is_none d.txns lease.txn lease.point lease.priority ≡ true in
        let H = λ (l : Lease). has_part is_none txns_after l.txn l.point l.priority ≡ true in
        let front : (test : Option End → Bool) (txn point priority : ℕ) → has_part test old_txns txn point priority ≡ true → has_part test txns_after txn point priority ≡ true =
        λ test txn point priority has. has-append test old_txns (begun_now ∷ []) txn point priority ∙ ap (λ b. b || has_part test (begun_now ∷ []) txn point priority) has in
        record {
          now = sound.now;
          first = omega arith;
          next = grind (arith, nat_tests);
          lease_slots = Pairs-Rising lease_slot (rest ++ new) slots-apart;
          pending_slots = Rising-filter pending_slot (λ r. not (broken r)) d.pending sound.pending_slots;
          slots = Pairs-Rising pending_slot (pending_after ++ map reversion_of leases_after) courses-apart;
          leases = to-leases (IsLease plant n) (each-filter (IsLease plant n) (λ l. not (gone l)) d.leases sound.leases)
              (each-mapped (IsLease plant n) (lease_of owner policy T n) writes (each-map (IsWrite plant) (λ w. IsLease plant n (lease_of owner policy T n w)) (new-lease plant owner policy T n) writes submit.allowed));
          pending = each-filter (IsPending plant n) (λ r. not (broken r)) d.pending sound.pending;
          numbers = Rising-snoc number_rank old_txns begun_now (Rising-same number_rank d.txns old_txns (numbers-same how d.leases d.txns) sound.numbers)
              (each-map (λ t. t.txn < T) (λ t. comes_before (T ∷ []) (t.txn ∷ []) ≡ false) (λ t early. grind (arith, nat_tests)) old_txns below);
          txns = each-append (IsTransaction plant changed) old_txns (begun_now ∷ [])
              (each-mapped (IsTransaction plant changed) (record_after how d.leases) d.txns
              (each-map (IsTransaction plant (record d { now = n })) (λ t. IsTransaction plant changed (record_after how d.leases t)) old-transaction d.txns sound.txns))
              (new-transaction, tt);
          open_parts = to-leases H
              (each-map (λ l. (not (gone l) ≡ true) × (O l × F l)) H
              (λ l all. front is_none l.txn l.point l.priority (has-after is_none is_none how d.leases d.txns l.txn l.point l.priority
              (λ end is. part-open-stays how d.leases l end all.1.1 (let out : gone l ≡ false = grind (arith) in ap (λ b. cond b (Some (record { cause = cause.Superseded T; at = n })) None) out) is) all.1.0))
              rest (each-both (λ l. not (gone l) ≡ true) (λ l. O l × F l) rest (each-passed (λ l. not (gone l) ≡ true) (λ l. not (gone l)) (λ l passed. passed) d.leases)
              (each-filter (λ l. O l × F l) (λ l. not (gone l)) d.leases (each-both O F d.leases sound.open_parts found))))
              (each-mapped H (lease_of owner policy T n) writes
              (each-map (λ w. list_any (λ part. (part.point == w.point) && ((part.priority == unsigned_abs w.priority) && is_none part.end)) (map part_of writes) ≡ true) (λ w. H (lease_of owner policy T n w))
              (λ w there. has-append is_none old_txns (begun_now ∷ []) T w.point (unsigned_abs w.priority) ∙ grind (arith, nat_tests)) writes (new-parts owner policy T n writes)));
          ended_parts =
              let Q = λ (r : Pending). has_part (is_start r.start) txns_after r.txn r.point r.priority ≡ true in
              each-filter Q (λ r. not (broken r)) d.pending (each-map (λ r. has_part (is_start r.start) d.txns r.txn r.point r.priority ≡ true) Q
              (λ r has. front (is_start r.start) r.txn r.point r.priority (has-after (is_start r.start) (is_start r.start) how d.leases d.txns r.txn r.point r.priority
              (λ end is. start-stays how (lease_of_part d.leases r.txn r.point r.priority) r.start end is) has)) d.pending sound.ended_parts);
          not_done =
              let N = λ (t : Transaction). lives t.txn (courses pending_after leases_after) ≡ true → member t.txn d.done ≡ false in
              each-append N old_txns (begun_now ∷ [])
              (each-mapped N (record_after how d.leases) d.txns
              (each-map (λ t. IsTransaction plant (record d { now = n }) t × (member t.txn d.done ≡ not (lives t.txn (courses d.pending d.leases)))) N
              (λ t both alive. let before : lives t.txn (courses d.pending d.leases) ≡ true = lived t.txn both.0.given alive in let done = both.1 in grind (arith))
              d.txns (each-both (IsTransaction plant (record d { now = n })) (λ t. member t.txn d.done ≡ not (lives t.txn (courses d.pending d.leases))) d.txns sound.txns sound.done))) (
                (λ _. not-yet),
                tt,
              );
          few_done = sound.few_done;
          done_once = sound.done_once;
          done_known = each-map (λ k. is_kept d.txns k ≡ true) (λ k. is_kept txns_after k ≡ true)
              (λ k there. any-append (λ t. t.txn == k) old_txns (begun_now ∷ []) ∙ ap (λ b. b || is_kept (begun_now ∷ []) k) (kept-after how d.leases d.txns k ∙ there)) d.done sound.done_known;
          few_processes = sound.few_processes;
          names = sound.names;
          processes = sound.processes;
        }

    submit-news : IsNews plant n (map (superseded T n) (filter gone d.leases) ++ map (cut T n) (filter broken d.pending))
    submit-news = news-append plant n (map (superseded T n) (filter gone d.leases)) (map (cut T n) (filter broken d.pending))
        (record {
          silent = each-mapped IsSilent (superseded T n) (filter gone d.leases) (each-always (λ l. IsSilent (superseded T n l)) (λ l. refl) (filter gone d.leases));
          told = each-mapped (λ h. IsTidings plant n h.told h.at h.txn) (superseded T n) (filter gone d.leases)
              (each-filter (λ l. IsTold plant n (what.Ended l.point (cause.Superseded T)) n l.txn) gone d.leases
              (each-map (λ l. IsLease plant n l × (l.txn < T)) (λ l. IsTold plant n (what.Ended l.point (cause.Superseded T)) n l.txn)
              (λ l both. record { past = omega arith; known = known-lease plant n l both.0; words = (word-of T l.txn sound.next both.1, new-word) }) d.leases
              (each-both (IsLease plant n) (λ l. l.txn < T) d.leases sound.leases lease-txns)));
        })
        (record {
          silent = each-mapped IsSilent (cut T n) (filter broken d.pending) (each-always (λ r. IsSilent (cut T n r)) (λ r. refl) (filter broken d.pending));
          told = each-mapped (λ h. IsTidings plant n h.told h.at h.txn) (cut T n) (filter broken d.pending)
              (each-filter (λ r. IsTold plant n (what.Cut r.point T) n r.txn) broken d.pending
              (each-map (λ r. IsPending plant n r × (r.txn < T)) (λ r. IsTold plant n (what.Cut r.point T) n r.txn)
              (λ r both. record { past = omega arith; known = known-pending plant n r both.0; words = (word-of T r.txn sound.next both.1, new-word) }) d.pending
              (each-both (IsPending plant n) (λ r. r.txn < T) d.pending sound.pending pending-txns)));
        })

    pub submitted-sound : IsNext plant d (submitted owner policy writes n d)
    submitted-sound = conclude-sound plant n (map (superseded T n) (filter gone d.leases) ++ map (cut T n) (filter broken d.pending)) d (T + 1) leases_after pending_after txns_after
        submit-change submit-news
        (let N = λ (t : Transaction). lives t.txn (courses_of d) ≡ true → member t.txn d.done ≡ false in
        each-append N old_txns (begun owner policy T writes ∷ [])
        (each-mapped N (record_after how d.leases) d.txns (alive-not-done plant (record d { now = n }) sound)) (
          (λ _. not-yet),
          tt,
        ))
