-- A tick after a tick is one tick to the later moment.
use Rattle.std.proofs.Common.{◌≡◌, ℕ, ◌≤◌, max, nat_lt, nat_le, List, [], ◌∷◌, ◌++◌, true, false, ◌&&◌, ◌||◌, map, refl, ap, sym, ◌∙◌, subst, arith}
use Rattle.std.specs.List.{filter, fold, flat_map, AllByRecursion}
use Rattle.std.proofs.lemmas.Grind.{fold-append}
use Rattle.std.proofs.lemmas.Bool.{cond_both}
use Rattle.std.proofs.lemmas.Bool.Decides.{nat_tests}
use Rattle.boss_model.specs.declared.state.Pending.{Pending}
use Rattle.boss_model.specs.declared.notice.Cause.TheVariants as cause
use Rattle.boss_model.specs.Happenings.{Happening, ended, rank, rank_of, happenings, lives, done_last, coming, finish, tell, later}
use Rattle.boss_model.specs.Lists.{member}
use Rattle.boss_model.specs.Records.{Transaction}
use Rattle.boss_model.specs.Reversions.{end_of, courses}
use Rattle.boss_model.specs.Sound.{Rising}
use Rattle.boss_model.specs.State.{pending_slot, Persistent}
use Rattle.boss_model.specs.Time.{live, under_way, left, due, kept, record_after, expired, tick_to, tick}
use Rattle.law_time.proofs.Coming.{all_of, now_after, now_after-within, quiet, coming-after}
use Rattle.law_time.proofs.Courses.{courses-after}
use Rattle.law_time.proofs.Filters.{filter-filter, filter-same, split}
use Rattle.law_time.proofs.Orders.{before-head, each-map, each-filter, each-front, each-back, Ordered-in_order}
use Rattle.law_time.proofs.Records.{record-twice, twice, IsOther, finish-other, coming-other, lives-left}

-- what the law needs of a sound persistent part: reversions under way have started, and no slot is taken twice
pub record IsTimed (d : Persistent) : Type 0 where
  pub started : AllByRecursion (λ r. r.start ≤ d.now) d.pending
  pub slots : Rising pending_slot (courses d.pending d.leases)

heads : (P : Happening → Type 0) (cs : List Pending) → AllByRecursion P (flat_map happenings cs) → AllByRecursion (λ c. P (ended cause.Expired c)) cs
heads P [] all = tt
heads P (c ∷ cs) all = (all.0, heads P cs (each-back P (happenings c) (flat_map happenings cs) all))

-- a reversion that starts up to n starts no later than the last due moment
pub started-by : (n now : ℕ) (cs : List Pending) (txns : List Transaction) → AllByRecursion (λ c. c.start ≤ n → c.start ≤ now_after n now cs txns) cs
started-by n now cs txns = heads (λ h. h.at ≤ n → h.at ≤ now_after n now cs txns) cs
    (each-front (λ h. h.at ≤ n → h.at ≤ now_after n now cs txns) (flat_map happenings cs) (map (done_last cs) txns) (quiet n now cs txns))

-- an ordered list of what is to come is cut by moments
due-split : (n m k now : ℕ) (cs : List Pending) (txns : List Transaction) → k ≡ max n m →
    filter (λ h. nat_le h.at k) (coming now cs txns)
    ≡ filter (λ h. nat_le h.at n) (coming now cs txns) ++ filter (λ h. nat_le h.at m) (filter (λ h. nat_lt n h.at) (coming now cs txns))
due-split n m k now cs txns greater =
    split rank (λ h. nat_le h.at n) (λ h. nat_lt n h.at && nat_le h.at m) (λ h. nat_le h.at k)
    (λ h. grind (arith, nat_tests)) (λ h. grind (arith, nat_tests))
    (λ x y next failed. let at : x.at ≤ y.at = before-head x.at y.at (x.txn ∷ rank_of x.told) (y.txn ∷ rank_of y.told) next in grind (arith, nat_tests))
    (coming now cs txns) (Ordered-in_order rank (filter (λ h. nat_lt now h.at) (all_of cs txns)))
    ∙ ap (λ hs. filter (λ h. nat_le h.at n) (coming now cs txns) ++ hs)
    (sym (filter-filter (λ h. nat_le h.at m) (λ h. nat_lt n h.at) (λ h. nat_lt n h.at && nat_le h.at m) (λ h. refl) (coming now cs txns)))

-- what is due after a tick is the rest of what was to come
pub due-after : (d : Persistent) (n m : ℕ) → IsTimed d → d.now ≤ n →
    due m (tick_to n d) ≡ filter (λ h. nat_le h.at m) (filter (λ h. nat_lt n h.at) (coming d.now (courses d.pending d.leases) d.txns))
due-after d n m timed within =
    let cs = courses d.pending d.leases in
    let now2 = now_after n d.now cs d.txns in
    let p = λ (t : Transaction). lives t.txn (left n cs) || member t.txn (tick_to n d).done in
    let txns2 = filter p (map (record_after (expired n) d.leases) d.txns) in
    let c1 : courses (under_way n cs) (live n d.leases) ≡ left n cs =
    courses-after n d.pending d.leases (each-map (λ r. r.start ≤ d.now) (λ r. r.start ≤ n) (λ r s. omega arith) d.pending timed.started) timed.slots in
    let rest : coming now2 (left n cs) txns2 ≡ filter (λ h. nat_lt n h.at) (coming d.now cs d.txns) =
    coming-after n d.now cs d.txns (record_after (expired n) d.leases) p within (λ t. (refl, refl)) (λ t there. grind (arith, nat_tests)) in
    ap (λ xs. filter (λ h. nat_le h.at m) (coming now2 xs txns2)) c1 ∙ ap (λ hs. filter (λ h. nat_le h.at m) hs) rest

pub tick_to-tick_to : (d : Persistent) (n m k : ℕ) → IsTimed d → d.now ≤ n → (tick_to n d).now ≤ m → k ≡ max n m → tick_to m (tick_to n d) ≡ tick_to k d
tick_to-tick_to d n m k timed within within2 greater =
    let cs = courses d.pending d.leases in
    let now2 = now_after n d.now cs d.txns in
    let f = λ (t : Transaction). record_after (expired n) d.leases t in
    let g = λ (t : Transaction). record_after (expired m) (live n d.leases) t in
    let done2 = (tick_to n d).done in
    let p = λ (t : Transaction). lives t.txn (left n cs) || member t.txn done2 in
    let txns2 = filter p (map f d.txns) in
    let c1 : courses (under_way n cs) (live n d.leases) ≡ left n cs =
    courses-after n d.pending d.leases (each-map (λ r. r.start ≤ d.now) (λ r. r.start ≤ n) (λ r s. omega arith) d.pending timed.started) timed.slots in
    let due2 : due m (tick_to n d) ≡ filter (λ h. nat_le h.at m) (filter (λ h. nat_lt n h.at) (coming d.now cs d.txns)) = due-after d n m timed within in
    let both : due n d ++ due m (tick_to n d) ≡ due k d = ap (λ hs. due n d ++ hs) due2 ∙ sym (due-split n m k d.now cs d.txns greater) in
    let now_same : fold later (fold later d.now (due n d)) (due m (tick_to n d)) ≡ fold later d.now (due k d) =
    sym (fold-append later d.now (due n d) (due m (tick_to n d))) ∙ ap (fold later d.now) both in
    let done_same : fold finish (fold finish d.done (due n d)) (due m (tick_to n d)) ≡ fold finish d.done (due k d) =
    sym (fold-append finish d.done (due n d) (due m (tick_to n d))) ∙ ap (fold finish d.done) both in
    let told_same : fold tell (fold tell d.processes (due n d)) (due m (tick_to n d)) ≡ fold tell d.processes (due k d) =
    sym (fold-append tell d.processes (due n d) (due m (tick_to n d))) ∙ ap (fold tell d.processes) both in
    let leases_same : live m (live n d.leases) ≡ live k d.leases =
    filter-filter (λ lease. nat_lt m lease.until) (λ lease. nat_lt n lease.until) (λ lease. nat_lt k lease.until) (λ lease. grind (arith, nat_tests)) d.leases in
    let left_same : left m (left n cs) ≡ left k cs =
    filter-filter (λ r. nat_lt m (end_of r)) (λ r. nat_lt n (end_of r)) (λ r. nat_lt k (end_of r)) (λ r. grind (arith, nat_tests)) cs in
    let pending_same : under_way m (left n cs) ≡ under_way k cs =
    filter-filter (λ r. nat_le r.start m && nat_lt m (end_of r)) (λ r. nat_lt n (end_of r)) (λ r. nat_lt n (end_of r) && (nat_le r.start m && nat_lt m (end_of r))) (λ r. refl) cs
    ∙ filter-same (λ r. nat_lt n (end_of r) && (nat_le r.start m && nat_lt m (end_of r))) (λ r. nat_le r.start k && nat_lt k (end_of r)) cs
    (each-map (λ c. c.start ≤ n → c.start ≤ now2) (λ r. (nat_lt n (end_of r) && (nat_le r.start m && nat_lt m (end_of r))) ≡ (nat_le r.start k && nat_lt k (end_of r)))
    (λ r early. grind (arith, nat_tests, early)) cs (started-by n d.now cs d.txns)) in
    let q = λ (t : Transaction). lives t.txn (left m (left n cs)) || member t.txn (fold finish done2 (due m (tick_to n d))) in
    let first : (t : Transaction) → q t ≡ true → p t ≡ true = λ t passed.
    cond_both (lives t.txn (left n cs)) true false (λ b. lives t.txn (left n cs) ≡ b → p t ≡ true)
    (λ _ there. grind (arith, nat_tests))
    (λ _ none.
    let other : AllByRecursion (IsOther t.txn) (due m (tick_to n d)) = subst (AllByRecursion (IsOther t.txn)) (sym (ap (λ xs. filter (λ h. nat_le h.at m) (coming now2 xs txns2)) c1))
    (each-filter (IsOther t.txn) (λ h. nat_le h.at m) (coming now2 (left n cs) txns2) (coming-other now2 t.txn (left n cs) txns2 none)) in
    let gone : lives t.txn (left m (left n cs)) ≡ true → lives t.txn (left n cs) ≡ true = lives-left m t.txn (left n cs) in
    let done : member t.txn (fold finish done2 (due m (tick_to n d))) ≡ true → member t.txn done2 ≡ true = finish-other t.txn done2 (due m (tick_to n d)) other in
    grind (arith, nat_tests)) (grind arith) in
    let txns_same : filter q (map g txns2) ≡ filter (λ t. lives t.txn (left k cs) || member t.txn (fold finish d.done (due k d))) (map (record_after (expired k) d.leases) d.txns) =
    twice f g (record_after (expired k) d.leases) p q (λ t. record-twice n m k d.leases t greater) (λ t. refl) first d.txns
    ∙ (λ i. filter (λ t. lives t.txn (left_same i) || member t.txn (done_same i)) (map (record_after (expired k) d.leases) d.txns)) in
    let cs2 = courses (under_way n cs) (live n d.leases) in
    let txns_path : kept (left m cs2) (fold finish done2 (due m (tick_to n d))) (map g txns2) ≡ (tick_to k d).txns =
    ap (λ xs. kept (left m xs) (fold finish done2 (due m (tick_to n d))) (map g txns2)) c1 ∙ txns_same in
    let pending_path : under_way m cs2 ≡ under_way k cs = ap (under_way m) c1 ∙ pending_same in
    λ i. record {
      now = now_same i;
      next = d.next;
      leases = leases_same i;
      pending = pending_path i;
      txns = txns_path i;
      done = done_same i;
      processes = told_same i;
    }

pub tick-tick : (d : Persistent) (a b : ℕ) → IsTimed d → tick (tick d a) b ≡ tick d (max a b)
tick-tick d a b timed =
    let n = max d.now a in
    let within : d.now ≤ max d.now a = omega arith in
    let small : (tick_to n d).now ≤ max d.now a = now_after-within n d.now (courses d.pending d.leases) d.txns within in
    let same : max d.now (max a b) ≡ max n (max (tick_to n d).now b) = omega arith in
    tick_to-tick_to d n (max (tick_to n d).now b) (max d.now (max a b)) timed within (omega arith) same
