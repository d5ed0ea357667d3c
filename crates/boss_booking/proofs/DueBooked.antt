-- What ends as time passes, told in order: the books are those of the whole tick.
use Rattle.std.proofs.Common.{◌≡◌, ℕ, ◌^◌, ◌<◌, ◌≤◌, ◌==◌, max, nat_lt, nat_le, List, [], ◌∷◌, ◌++◌, Bool, true, false, not, ◌&&◌, ◌||◌, cond, map, Some, None, refl, ap, sym, ◌∙◌, subst, ⊎_elim, arith}
use Rattle.std.specs.List.{filter, flat_map, fold, list_any, AllByRecursion}
use Rattle.std.proofs.lemmas.Bool.{cases_Bool, cond_both}
use Rattle.std.proofs.lemmas.Bool.Decides.{nat_tests}
use Rattle.boss_model.specs.declared.command.Step.{Step}
use Rattle.boss_model.specs.declared.notice.Cause.TheVariants as cause
use Rattle.boss_model.specs.declared.notice.What.TheVariants as what
use Rattle.boss_model.specs.declared.state.Actuator.{Actuator}
use Rattle.boss_model.specs.declared.state.Lease.{Lease}
use Rattle.boss_model.specs.declared.state.Pending.{Pending}
use Rattle.boss_model.specs.Happenings.{Happening, rank, rank_of, lives, happens, reverted, last_end, done_last, finish, tell}
use Rattle.boss_model.specs.Lists.{latest}
use Rattle.boss_model.specs.Order.{comes_before, put, in_order}
use Rattle.boss_model.specs.Records.{Transaction}
use Rattle.boss_model.specs.Reversions.{over, end_of, reversion_of, courses}
use Rattle.boss_model.specs.Sound.{IsLease, IsPending, IsSoundPersistent}
use Rattle.boss_model.specs.State.{Persistent, pending_slot}
use Rattle.boss_model.specs.Time.{live, under_way, left, due, expired, record_after, kept, tick_to}
use Rattle.boss_stages.specs.Stages.{Stages}
use Rattle.law_time.proofs.Courses.{end-later}
use Rattle.law_time.proofs.Filters.{filter-none, filter-all, filter-same, each-always, any-map}
use Rattle.law_time.proofs.GroupSound.{IsChange}
use Rattle.law_time.proofs.NothingDue.{of-pending, of-leases}
use Rattle.law_time.proofs.Orders.{before-head, each-map, Ordered, Ordered-in_order}
use Rattle.law_time.proofs.Slots.{any-in_order, any-append, to-courses}
use Rattle.law_time.proofs.TickSound.{map-same, tick-change}
use Rattle.law_time.proofs.Coming.{now_after}
use Rattle.boss_booking.specs.Bookable.{ComesTo}
use Rattle.boss_booking.specs.Books.{Telling, StandsFor, reverts_on}
use Rattle.law_due.specs.Due.{reverted_by, lease_told, is_done_by, due_told}
use Rattle.boss_booking.specs.Gathered.{plain, ended_with, lease_tellings, pending_tellings, due_tellings, told_rank, has_steps}
use Rattle.boss_booking.proofs.Changed.{change-opened, change-lived, any-filter, or-turn}
use Rattle.law_due.proofs.DueLemmas.{tell-told, finish-told, left-courses, due-told}
use Rattle.boss_booking.proofs.EndsBooked.{is_way, own-on, map-append, map-plain}
use Rattle.boss_booking.proofs.Gathering.{IsOfLease, IsOfPending, Outcome, IsGathered, gathered, over_last, over-dead, dead, group, comes}
use Rattle.law_due.proofs.Keys.{lease_key, pending_key}
use Rattle.boss_booking.proofs.Tellings.{ends, awaits}
use Rattle.boss_booking.proofs.Weaving.{AreTimely, none-awaited}

-- ---- what is told of one lease and of one reversion

-- the end of a reversion
abbrev the_end : Pending → Telling
the_end r = plain (happens r (end_of r) (Some (what.Reverted r.point)))

pending-told : (n now : ℕ) (r : Pending) (steps : List Step) → r.steps ≡ steps → r.start ≤ now → now ≤ n → now < end_of r →
    IsOfPending (is_way n r) r (map plain (cond (nat_le (end_of r) n) (reverted r steps) []))
pending-told n now r [] is started within running = absurd (let same : end_of r ≡ r.start = ap (over r.start) is in omega arith)
pending-told n now r (step ∷ steps) is started within running = ⊎_elim
    (λ ended. subst (λ b. IsOfPending (is_way n r) r (map plain (cond b (reverted r (step ∷ steps)) []))) (sym ended)
    (record { own = (own-on r.txn r.point, tt); owned = (refl, tt); rising = (tt, tt); fits = λ live. (refl, tt); ends = λ end. refl; pends = grind (arith, nat_tests) }))
    (λ runs. subst (λ b. IsOfPending (is_way n r) r (map plain (cond b (reverted r (step ∷ steps)) []))) (sym runs)
    (record { own = tt; owned = tt; rising = tt; fits = λ live. tt; ends = λ end. refl; pends = grind (arith, nat_tests) }))
    (cases_Bool (nat_le (end_of r) n))

expired-at : (n : ℕ) (l : Lease) → l.until ≤ n → Some (record { cause = cause.Expired; at = l.until }) ≡ expired n l
expired-at n l past = let late : nat_lt n l.until ≡ false = grind (arith, nat_tests) in sym (ap (λ b. cond b None (Some (record { cause = cause.Expired; at = l.until }))) late)

-- the end comes before that of its reversion
end-first : (l : Lease) → comes_before (told_rank (the_end (reversion_of l))) (told_rank (ended_with cause.Expired (reversion_of l))) ≡ false
end-first l = let later : l.until ≤ end_of (reversion_of l) = end-later (reversion_of l) in grind (arith, nat_tests)

lease-ended : (n : ℕ) (l : Lease) (steps : List Step) → l.revert ≡ steps → l.until ≤ n →
    IsOfLease (expired n l) (is_way n (reversion_of l)) l (ended_with cause.Expired (reversion_of l) ∷ map plain (cond (nat_le (end_of (reversion_of l)) n) (reverted (reversion_of l) steps) []))
lease-ended n l [] is past =
    let same : end_of (reversion_of l) ≡ l.until = ap (over l.until) is in
    let none : has_steps l.revert ≡ false = ap has_steps is in
    let ended : nat_le (end_of (reversion_of l)) n ≡ true = grind (arith, nat_tests) in
    subst (λ b. IsOfLease (expired n l) (is_way n (reversion_of l)) l (ended_with cause.Expired (reversion_of l) ∷ map plain (cond b [] []))) (sym ended) (record {
      own = (own-on l.txn l.point, tt);
      owned = (refl, tt);
      rising = (tt, tt);
      fits = (refl, tt);
      ends = expired-at n l past;
      pends = none ∙ grind (arith, nat_tests);
    })
lease-ended n l (step ∷ steps) is past =
    let some : has_steps l.revert ≡ true = ap has_steps is ∙ grind (arith, nat_tests) in
    ⊎_elim
    (λ ended. subst (λ b. IsOfLease (expired n l) (is_way n (reversion_of l)) l (ended_with cause.Expired (reversion_of l) ∷ map plain (cond b (reverted (reversion_of l) (step ∷ steps)) []))) (sym ended) (record {
      own = (own-on l.txn l.point, (own-on l.txn l.point, tt));
      owned = (refl, (refl, tt));
      rising = ((end-first l, tt), (tt, tt));
      fits = (refl, (some, tt));
      ends = expired-at n l past;
      pends = grind (arith, nat_tests);
    }))
    (λ runs. subst (λ b. IsOfLease (expired n l) (is_way n (reversion_of l)) l (ended_with cause.Expired (reversion_of l) ∷ map plain (cond b (reverted (reversion_of l) (step ∷ steps)) []))) (sym runs) (record {
      own = (own-on l.txn l.point, tt);
      owned = (refl, tt);
      rising = (tt, tt);
      fits = (refl, tt);
      ends = expired-at n l past;
      pends = some ∙ grind (arith, nat_tests);
    }))
    (cases_Bool (nat_le (end_of (reversion_of l)) n))

lease-tellings : (n : ℕ) (l : Lease) → IsOfLease (expired n l) (is_way n (reversion_of l)) l (lease_tellings n l)
lease-tellings n l = ⊎_elim
    (λ past. subst (λ b. IsOfLease (expired n l) (is_way n (reversion_of l)) l (cond b (ended_with cause.Expired (reversion_of l) ∷ pending_tellings n (reversion_of l)) [])) (sym past)
    (lease-ended n l l.revert refl (grind (arith, nat_tests))))
    (λ later. subst (λ b. IsOfLease (expired n l) (is_way n (reversion_of l)) l (cond b (ended_with cause.Expired (reversion_of l) ∷ pending_tellings n (reversion_of l)) [])) (sym later)
    (record { own = tt; owned = tt; rising = tt; fits = tt; ends = grind (arith, nat_tests); pends = grind (arith, nat_tests) }))
    (cases_Bool (nat_le l.until n))

-- ---- the last of some moments

module _ {X : Type 0} (at : X → ℕ) (test : X → Bool) where
  abbrev pub last_of : List X → ℕ
  last_of xs = latest (map at (filter test xs))

  last-first : (x : X) (xs : List X) → last_of (x ∷ xs) ≡ max (cond (test x) (at x) 0) (last_of xs)
  last-first x xs = cond_both (test x) (x ∷ filter test xs) (filter test xs) (λ ys. latest (map at ys) ≡ max (cond (test x) (at x) 0) (last_of xs))
      (λ is. ap (λ b. max (cond b (at x) 0) (last_of xs)) (sym is)) (λ out. zero_first (last_of xs) ∙ ap (λ b. max (cond b (at x) 0) (last_of xs)) (sym out))
    where
      zero_first : (n : ℕ) → n ≡ max 0 n
      zero_first n = omega arith

  max-turn : (a b c : ℕ) → max a (max b c) ≡ max b (max a c)
  max-turn a b c = omega arith

  last-put : (order : X → List ℕ) (x : X) (ys : List X) → last_of (put order x ys) ≡ max (cond (test x) (at x) 0) (last_of ys)
  last-put order x [] = last-first x []
  last-put order x (y ∷ ys) = cond_both (comes_before (order x) (order y)) (x ∷ y ∷ ys) (y ∷ put order x ys) (λ zs. last_of zs ≡ max (cond (test x) (at x) 0) (last_of (y ∷ ys)))
      (λ _. last-first x (y ∷ ys))
      (λ _. last-first y (put order x ys) ∙ ap (max (cond (test y) (at y) 0)) (last-put order x ys) ∙ max-turn (cond (test y) (at y) 0) (cond (test x) (at x) 0) (last_of ys)
      ∙ ap (max (cond (test x) (at x) 0)) (sym (last-first y ys)))

  pub last-in_order : (order : X → List ℕ) (xs : List X) → last_of (in_order order xs) ≡ last_of xs
  last-in_order order [] = refl
  last-in_order order (x ∷ xs) = last-put order x (in_order order xs) ∙ ap (max (cond (test x) (at x) 0)) (last-in_order order xs) ∙ sym (last-first x xs)

  pub last-append : (xs ys : List X) → last_of (xs ++ ys) ≡ max (last_of xs) (last_of ys)
  last-append [] ys = omega arith
  last-append (x ∷ xs) ys =
      last-first x (xs ++ ys) ∙ ap (max (cond (test x) (at x) 0)) (last-append xs ys) ∙ max-assoc (cond (test x) (at x) 0) (last_of xs) (last_of ys) ∙ ap (λ k. max k (last_of ys)) (sym (last-first x xs))
    where
      max-assoc : (a b c : ℕ) → max a (max b c) ≡ max (max a b) c
      max-assoc a b c = omega arith

  pub last-none : (xs : List X) → AllByRecursion (λ x. test x ≡ false) xs → last_of xs ≡ 0
  last-none xs none = ap (λ ys. latest (map at ys)) (filter-none test xs none)

  pub last-later : (t : ℕ) (xs : List X) → AllByRecursion (λ x. t ≤ at x) xs → list_any test xs ≡ true → t ≤ last_of xs
  last-later t [] later some = absurd (cc)
  last-later t (x ∷ xs) later some = ⊎_elim
      (λ is. let here : t ≤ at x = later.0 in let first : last_of (x ∷ xs) ≡ max (at x) (last_of xs) = last-first x xs ∙ ap (λ b. max (cond b (at x) 0) (last_of xs)) is in omega arith)
      (λ out.
      let rest : t ≤ last_of xs = last-later t xs later.1 (sym (ap (λ b. b || list_any test xs) out) ∙ some) in
      let first : last_of (x ∷ xs) ≡ max 0 (last_of xs) = last-first x xs ∙ ap (λ b. max (cond b (at x) 0) (last_of xs)) out in omega arith)
      (cases_Bool (test x))

-- ---- what is woven in comes at the last end

abbrev told_at : Telling → ℕ
told_at e = e.happening.at

abbrev last_told : ℕ → List Telling → ℕ
last_told txn es = last_of told_at (ends txn) es

-- an end that is followed by another of its transaction is not the last
last-behind : (txn : ℕ) (e : Telling) (es : List Telling) → AllByRecursion (λ y. comes_before (told_rank e) (told_rank y) ≡ true) es → awaits txn es ≡ true → last_told txn (e ∷ es) ≡ last_told txn es
last-behind txn e es order more =
    let later : told_at e ≤ last_told txn es = last-later told_at (ends txn) (told_at e) es
    (each-map (λ y. comes_before (told_rank e) (told_rank y) ≡ true) (λ y. told_at e ≤ told_at y) (λ y first. before-head e.happening.at y.happening.at (e.happening.txn ∷ rank_of e.happening.told) (y.happening.txn ∷ rank_of y.happening.told) first) es order) more in
    last-first told_at (ends txn) e es ∙ cond_both (ends txn e) (told_at e) 0 (λ k. max k (last_told txn es) ≡ last_told txn es) (λ _. omega arith) (λ _. omega arith)

max-one : (k : ℕ) → max k 0 ≡ k
max-one k = omega arith

timely : (over_by : ℕ → Bool) (last : ℕ → ℕ) (es : List Telling) → Ordered told_rank es →
    ((txn : ℕ) → over_by txn ≡ true → awaits txn es ≡ true → last txn ≡ last_told txn es) → AreTimely over_by last es
timely over_by last [] order at = tt
timely over_by last (e ∷ es) order at = (
  (λ now_last.
      let h = e.happening in
      let done : over_by h.txn ≡ true = grind (arith) in
      let none : awaits h.txn es ≡ false = grind (arith) in
      let here : ends h.txn e ≡ true = grind (arith, nat_tests) in
      sym (at h.txn done (ap (λ b. b || awaits h.txn es) here)
      ∙ last-first told_at (ends h.txn) e es ∙ (λ i. max (cond (here i) h.at 0) (last-none told_at (ends h.txn) es (none-awaited h.txn es none) i)) ∙ max-one h.at)),
  timely over_by last es order.1 (λ txn done more. at txn done (rest_too txn more) ∙ last-behind txn e es order.0 more),
)
  where
    rest_too : (txn : ℕ) → awaits txn es ≡ true → awaits txn (e ∷ es) ≡ true
    rest_too txn more = grind (arith)

-- ---- the last end of a transaction that is over by n

-- of one reversion, and of one lease
pending-last : (n txn : ℕ) (r : Pending) (steps : List Step) → r.steps ≡ steps → r.start < end_of r → ((r.txn == txn) ≡ true → end_of r ≤ n) →
    last_told txn (map plain (cond (nat_le (end_of r) n) (reverted r steps) [])) ≡ cond (r.txn == txn) (end_of r) 0
pending-last n txn r [] is running past = absurd (let same : end_of r ≡ r.start = ap (over r.start) is in omega arith)
pending-last n txn r (step ∷ steps) is running past = ⊎_elim
    (λ own.
    let ended : nat_le (end_of r) n ≡ true = (let by : end_of r ≤ n = past own in grind (arith, nat_tests)) in
    ap (λ b. last_told txn (map plain (cond b (reverted r (step ∷ steps)) []))) ended
    ∙ last-first told_at (ends txn) (the_end r) [] ∙ ap (λ b. max (cond b (end_of r) 0) 0) own ∙ max-one (end_of r) ∙ sym (ap (λ b. cond b (end_of r) 0) own))
    (λ other. cond_both (nat_le (end_of r) n) (reverted r (step ∷ steps)) [] (λ hs. last_told txn (map plain hs) ≡ cond (r.txn == txn) (end_of r) 0)
    (λ _. last-none told_at (ends txn) (the_end r ∷ []) (other, tt) ∙ sym (ap (λ b. cond b (end_of r) 0) other)) (λ _. sym (ap (λ b. cond b (end_of r) 0) other)))
    (cases_Bool (r.txn == txn))

lease-last : (n txn : ℕ) (l : Lease) (steps : List Step) → l.revert ≡ steps → ((l.txn == txn) ≡ true → end_of (reversion_of l) ≤ n) →
    last_told txn (cond (nat_le l.until n) (ended_with cause.Expired (reversion_of l) ∷ map plain (cond (nat_le (end_of (reversion_of l)) n) (reverted (reversion_of l) steps) [])) []) ≡ cond (l.txn == txn) (end_of (reversion_of l)) 0
lease-last n txn l steps is past = ⊎_elim
    (λ own.
    let by : end_of (reversion_of l) ≤ n = past own in
    let later : l.until ≤ end_of (reversion_of l) = end-later (reversion_of l) in
    let a : nat_le l.until n ≡ true = grind (arith, nat_tests) in
    let b : nat_le (end_of (reversion_of l)) n ≡ true = grind (arith, nat_tests) in
    (λ i. last_told txn (cond (a i) (ended_with cause.Expired (reversion_of l) ∷ map plain (cond (b i) (reverted (reversion_of l) steps) [])) [])) ∙ by_steps steps is later own ∙ sym (ap (λ c. cond c (end_of (reversion_of l)) 0) own))
    (λ other. last-none told_at (ends txn) (cond (nat_le l.until n) (ended_with cause.Expired (reversion_of l) ∷ map plain (cond (nat_le (end_of (reversion_of l)) n) (reverted (reversion_of l) steps) [])) []) (none other) ∙ sym (ap (λ c. cond c (end_of (reversion_of l)) 0) other))
    (cases_Bool (l.txn == txn))
  where
    by_steps : (steps : List Step) → l.revert ≡ steps → l.until ≤ end_of (reversion_of l) → (l.txn == txn) ≡ true → last_told txn (ended_with cause.Expired (reversion_of l) ∷ map plain (reverted (reversion_of l) steps)) ≡ end_of (reversion_of l)
    by_steps [] is later own = last-first told_at (ends txn) (ended_with cause.Expired (reversion_of l)) [] ∙ ap (λ b. max (cond b l.until 0) 0) own ∙ max-one l.until ∙ sym (ap (over l.until) is)
    by_steps (step ∷ steps) is later own =
        last-first told_at (ends txn) (ended_with cause.Expired (reversion_of l)) (the_end (reversion_of l) ∷ [])
        ∙ (λ i. max (cond (own i) l.until 0) ((last-first told_at (ends txn) (the_end (reversion_of l)) [] ∙ ap (λ b. max (cond b (end_of (reversion_of l)) 0) 0) own ∙ max-one (end_of (reversion_of l))) i)) ∙ omega arith

    none_reverted : (steps : List Step) → (l.txn == txn) ≡ false → AllByRecursion (λ e. ends txn e ≡ false) (map plain (reverted (reversion_of l) steps))
    none_reverted [] other = tt
    none_reverted (step ∷ steps) other = (other, tt)

    none : (l.txn == txn) ≡ false → AllByRecursion (λ e. ends txn e ≡ false) (cond (nat_le l.until n) (ended_with cause.Expired (reversion_of l) ∷ map plain (cond (nat_le (end_of (reversion_of l)) n) (reverted (reversion_of l) steps) [])) [])
    none other = cond_both (nat_le l.until n) (ended_with cause.Expired (reversion_of l) ∷ map plain (cond (nat_le (end_of (reversion_of l)) n) (reverted (reversion_of l) steps) [])) [] (AllByRecursion (λ e. ends txn e ≡ false))
        (λ _. (other, cond_both (nat_le (end_of (reversion_of l)) n) (reverted (reversion_of l) steps) [] (λ hs. AllByRecursion (λ e. ends txn e ≡ false) (map plain hs)) (λ _. none_reverted steps other) (λ _. tt))) (λ _. tt)

-- of all
abbrev last_course : ℕ → List Pending → ℕ
last_course txn cs = last_of end_of (λ r. r.txn == txn) cs

leases-last : (n txn : ℕ) (leases : List Lease) → AllByRecursion (λ l. (l.txn == txn) ≡ true → end_of (reversion_of l) ≤ n) leases →
    last_told txn (flat_map (lease_tellings n) leases) ≡ last_course txn (map reversion_of leases)
leases-last n txn [] past = refl
leases-last n txn (l ∷ ls) past = last-append told_at (ends txn) (lease_tellings n l) (flat_map (lease_tellings n) ls)
    ∙ (λ i. max (lease-last n txn l l.revert refl past.0 i) (leases-last n txn ls past.1 i)) ∙ sym (last-first end_of (λ r. r.txn == txn) (reversion_of l) (map reversion_of ls))

pendings-last : (n txn : ℕ) (pending : List Pending) → AllByRecursion (λ r. r.start < end_of r) pending → AllByRecursion (λ r. (r.txn == txn) ≡ true → end_of r ≤ n) pending →
    last_told txn (flat_map (pending_tellings n) pending) ≡ last_course txn pending
pendings-last n txn [] running past = refl
pendings-last n txn (r ∷ rs) running past = last-append told_at (ends txn) (pending_tellings n r) (flat_map (pending_tellings n) rs)
    ∙ (λ i. max (pending-last n txn r r.steps refl running.0 past.0 i) (pendings-last n txn rs running.1 past.1 i)) ∙ sym (last-first end_of (λ c. c.txn == txn) r rs)

-- ---- which transactions are over by n

-- what has an end later than n has a last end later than n
lives-last : (n txn : ℕ) (cs : List Pending) → lives txn (left n cs) ≡ nat_lt n (last_end txn cs)
lives-last n txn [] = grind (arith, nat_tests)
lives-last n txn (c ∷ cs) = grind (arith, nat_tests, lives-last n txn cs)

dead-ends : (n txn : ℕ) (cs : List Pending) → lives txn (left n cs) ≡ false → AllByRecursion (λ c. (c.txn == txn) ≡ true → end_of c ≤ n) cs
dead-ends n txn [] dead = tt
dead-ends n txn (c ∷ cs) dead =
    cond_both (nat_lt n (end_of c)) (c ∷ left n cs) (left n cs) (λ xs. lives txn xs ≡ false → nat_lt n (end_of c) ≡ nat_lt n (end_of c) → AllByRecursion (λ x. (x.txn == txn) ≡ true → end_of x ≤ n) (c ∷ cs))
    (λ later none _. ((λ own. absurd (grind (arith))), dead-ends n txn cs (grind (arith))))
    (λ past none _. ((λ _. grind (arith, nat_tests)), dead-ends n txn cs none)) dead refl

-- ---- what is told, as it is found

told-of-pending : (n : ℕ) (pending : List Pending) → map (λ e. e.happening) (flat_map (pending_tellings n) pending) ≡ flat_map (reverted_by n) pending
told-of-pending n [] = refl
told-of-pending n (r ∷ rs) = map-append (λ e. e.happening) (pending_tellings n r) (flat_map (pending_tellings n) rs) ∙ (λ i. map-plain (reverted_by n r) i ++ told-of-pending n rs i)

told-of-lease : (n : ℕ) (l : Lease) → map (λ e. e.happening) (lease_tellings n l) ≡ lease_told n l
told-of-lease n l = ⊎_elim
    (λ past. ap (λ b. map (λ e. e.happening) (cond b (ended_with cause.Expired (reversion_of l) ∷ pending_tellings n (reversion_of l)) [])) past
    ∙ ap (λ hs. (ended_with cause.Expired (reversion_of l)).happening ∷ hs) (map-plain (reverted_by n (reversion_of l)))
    ∙ sym (ap (λ b. cond b ((ended_with cause.Expired (reversion_of l)).happening ∷ reverted_by n (reversion_of l)) []) past))
    (λ later. ap (λ b. map (λ e. e.happening) (cond b (ended_with cause.Expired (reversion_of l) ∷ pending_tellings n (reversion_of l)) [])) later
    ∙ sym (ap (λ b. cond b ((ended_with cause.Expired (reversion_of l)).happening ∷ reverted_by n (reversion_of l)) []) later))
    (cases_Bool (nat_le l.until n))

told-of-leases : (n : ℕ) (leases : List Lease) → map (λ e. e.happening) (flat_map (lease_tellings n) leases) ≡ flat_map (lease_told n) leases
told-of-leases n [] = refl
told-of-leases n (l ∷ ls) = map-append (λ e. e.happening) (lease_tellings n l) (flat_map (lease_tellings n) ls) ∙ (λ i. told-of-lease n l i ++ told-of-leases n ls i)

-- what is gathered tells what is found
pub due-tellings-told : (n : ℕ) (d : Persistent) → map (λ e. e.happening) (due_tellings n d) ≡ flat_map (lease_told n) d.leases ++ flat_map (reverted_by n) d.pending
due-tellings-told n d = map-append (λ e. e.happening) (flat_map (lease_tellings n) d.leases) (flat_map (pending_tellings n) d.pending) ∙ (λ i. told-of-leases n d.leases i ++ told-of-pending n d.pending i)

-- ---- the tick

module _ (plant : List Actuator) (d : Persistent) (s : Stages) (n : ℕ) (sound : IsSoundPersistent plant d) (stands : StandsFor s d) (within : d.now ≤ n) (small : n ≤ 2 ^ 60) where
  abbrev cs : List Pending
  cs = courses d.pending d.leases

  abbrev changed : Persistent
  changed = record d { now = now_after n d.now cs d.txns; leases = live n d.leases; pending = under_way n cs; txns = map (record_after (expired n) d.leases) d.txns }

  change : IsChange plant changed
  change = subst (λ ls. IsChange plant (record d { now = now_after n d.now cs d.txns; leases = live n ls; pending = under_way n (courses d.pending ls); txns = map (record_after (expired n) d.leases) d.txns }))
      (map-same d.leases) (tick-change plant d n sound within small)

  abbrev lease_left : Lease → Bool
  lease_left l = is_way n (reversion_of l)

  reversions-left : (txn point : ℕ) → reverts_on txn point (under_way n cs) ≡
      (list_any (λ l. lease_key txn point l && lease_left l) d.leases || list_any (λ r. pending_key txn point r && is_way n r) d.pending)
  reversions-left txn point =
      let test = λ (r : Pending). pending_key txn point r && is_way n r in
      any-filter (pending_key txn point) (is_way n) cs
      ∙ any-in_order test pending_slot (d.pending ++ map reversion_of d.leases)
      ∙ any-append test d.pending (map reversion_of d.leases)
      ∙ or-turn (list_any test d.pending) (list_any test (map reversion_of d.leases))
      ∙ ap (λ b. b || list_any test d.pending) (any-map test reversion_of d.leases)

  abbrev outcome : Outcome
  outcome = record { first = []; of_lease = lease_tellings n; of_pending = pending_tellings n; how = expired n; lease_left = lease_left; pending_left = is_way n; pending = changed.pending; leases = changed.leases }

  is : IsGathered d outcome
  is = record {
    silent = tt;
    informed = tt;
    single = tt;
    of_leases = each-always (λ l. IsOfLease (expired n l) (lease_left l) l (lease_tellings n l)) (lease-tellings n) d.leases;
    of_pendings = each-map (IsPending plant d.now) (λ r. IsOfPending (is_way n r) r (pending_tellings n r)) (λ r o. pending-told n d.now r r.steps refl o.started within o.running) d.pending sound.pending;
    left = reversions-left;
    opened = change-opened plant changed change;
    lived = change-lived plant changed change;
  }

  abbrev all : List Telling
  all = gathered d outcome

  abbrev es : List Telling
  es = in_order told_rank all

  abbrev over_by : ℕ → Bool
  over_by = over_last plant d s sound stands outcome is

  left-is : courses changed.pending changed.leases ≡ left n cs
  left-is = left-courses plant d n sound within

  last : (txn : ℕ) → over_by txn ≡ true → awaits txn es ≡ true → last_end txn cs ≡ last_told txn es
  last txn over_now more =
      let dead : lives txn (left n cs) ≡ false = ap (lives txn) (sym left-is)
      ∙ over-dead plant d s sound stands outcome is txn over_now in
      let P = λ (c : Pending). (c.txn == txn) ≡ true → end_of c ≤ n in
      let past : AllByRecursion P cs = dead-ends n txn cs dead in
      let running : AllByRecursion (λ r. r.start < end_of r) d.pending = each-map (IsPending plant d.now) (λ r. r.start < end_of r)
      (λ r o. let a : r.start ≤ d.now = o.started in let b : d.now < end_of r = o.running in omega arith) d.pending sound.pending in
      let test = λ (r : Pending). r.txn == txn in
      last-in_order end_of test pending_slot (d.pending ++ map reversion_of d.leases)
      ∙ last-append end_of test d.pending (map reversion_of d.leases)
      ∙ (λ i. max (sym (pendings-last n txn d.pending running (of-pending P d.pending d.leases past)) i) (sym (leases-last n txn d.leases (of-leases P d.pending d.leases past)) i))
      ∙ turn (last_told txn (flat_map (pending_tellings n) d.pending)) (last_told txn (flat_map (lease_tellings n) d.leases))
      ∙ sym (last-in_order told_at (ends txn) told_rank all ∙ last-append told_at (ends txn) (flat_map (lease_tellings n) d.leases) (flat_map (pending_tellings n) d.pending))
    where
      turn : (a b : ℕ) → max a b ≡ max b a
      turn a b = omega arith

  so : AreTimely over_by (λ txn. last_end txn cs) es
  so = timely over_by (λ txn. last_end txn cs) es (Ordered-in_order told_rank all) last

  -- what has something left, and ends by n
  dead-is : (t : Transaction) → dead plant d s sound stands outcome is t.txn ≡ is_done_by d.now n cs t
  dead-is t =
      let later : AllByRecursion (λ c. d.now < end_of c) cs = to-courses (λ c. d.now < end_of c) d.pending d.leases
      (each-map (IsPending plant d.now) (λ c. d.now < end_of c) (λ c o. o.running) d.pending sound.pending)
      (each-map (IsLease plant d.now) (λ l. d.now < end_of (reversion_of l)) (λ l o. let a : d.now < l.until = o.live in let b : l.until ≤ end_of (reversion_of l) = end-later (reversion_of l) in omega arith) d.leases sound.leases) in
      let still : left d.now cs ≡ cs = filter-all (λ c. nat_lt d.now (end_of c)) cs (each-map (λ c. d.now < end_of c) (λ c. nat_lt d.now (end_of c) ≡ true) (λ c o. grind (arith, nat_tests)) cs later) in
      let before : lives t.txn cs ≡ nat_lt d.now (last_end t.txn cs) = ap (lives t.txn) (sym still) ∙ lives-last d.now t.txn cs in
      let after : lives t.txn (courses changed.pending changed.leases) ≡ nat_lt n (last_end t.txn cs) = ap (lives t.txn) left-is ∙ lives-last n t.txn cs in
      (λ i. before i && not (after i)) ∙ ap (λ b. nat_lt d.now (last_end t.txn cs) && b) (not_later n (last_end t.txn cs))
    where
      not_later : (a b : ℕ) → not (nat_lt a b) ≡ nat_le b a
      not_later a b = grind (arith, nat_tests)

  abbrev the_group : List Happening
  the_group = group plant d s sound stands outcome is (λ txn. last_end txn cs) so

  group-is : the_group ≡ in_order rank (due_told n d)
  group-is = λ i. in_order rank (due-tellings-told n d i
      ++ map (done_last cs) (filter-same (λ t. dead plant d s sound stands outcome is t.txn) (is_done_by d.now n cs) d.txns
      (each-always (λ t. dead plant d s sound stands outcome is t.txn ≡ is_done_by d.now n cs t) dead-is d.txns) i))

  finish-is : fold finish d.done the_group ≡ fold finish d.done (due n d)
  finish-is = ap (fold finish d.done) (group-is ∙ due-told plant d n sound) ∙ finish-told d.done (due n d)

  pub due-comes : ComesTo (tick_to n d) s d.processes (due_tellings n d)
  due-comes = comes plant d s sound stands outcome is (λ txn. last_end txn cs) so
      (tick_to n d) (due_tellings n d) refl
      (ap (fold tell d.processes) (group-is ∙ due-told plant d n sound) ∙ tell-told d.processes (due n d))
      finish-is
      ((λ i. kept (left-is i) (finish-is i) (map (record_after (expired n) d.leases) d.txns)))
      refl
