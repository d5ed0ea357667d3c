-- The records of transactions over two ticks, and which transactions become done.
use Rattle.std.proofs.Common.{◌≡◌, ℕ, zero, suc, ◌-◌, ◌<◌, ◌==◌, max, nat_lt, List, [], ◌∷◌, ◌++◌, length, drop, Bool, true, false, ◌&&◌, ◌||◌, cond, map, Option, Some, None, refl, ap, sym, ◌∙◌, subst, arith}
use Rattle.std.specs.List.{filter, fold, flat_map, AllByRecursion}
use Rattle.std.proofs.lemmas.Bool.{cond_both}
use Rattle.std.proofs.lemmas.Bool.Decides.{nat_tests}
use Rattle.boss_model.specs.declared.command.Step.{Step}
use Rattle.boss_model.specs.declared.state.Lease.{Lease}
use Rattle.boss_model.specs.declared.state.Pending.{Pending}
use Rattle.boss_model.specs.Happenings.{Happening, rank, turned, reverted, happenings, lives, done_last, coming, is_done, finish}
use Rattle.boss_model.specs.Limits.{done_kept}
use Rattle.boss_model.specs.Lists.{member, keep_last}
use Rattle.boss_model.specs.Records.{End, Part, Transaction}
use Rattle.boss_model.specs.Reversions.{turns}
use Rattle.boss_model.specs.Time.{live, left, lease_of_part, end_after, part_after, record_after, expired}
use Rattle.law_time.proofs.Courses.{lives-last_end}
use Rattle.law_time.proofs.Filters.{each-mapped, each-always}
use Rattle.law_time.proofs.Orders.{each-append, each-map, each-filter, each-passed, each-in_order, each-both}

-- ---- parts

-- a part that has ended by n is not changed by a later tick, and an open one ends as its lease would
end-twice : (n m k txn point priority : ℕ) (leases : List Lease) (end : Option End) → k ≡ max n m →
    end_after (expired m) (lease_of_part (live n leases) txn point priority) (end_after (expired n) (lease_of_part leases txn point priority) end)
    ≡ end_after (expired k) (lease_of_part leases txn point priority) end
end-twice n m k txn point priority leases (Some end) later = refl
end-twice n m k txn point priority [] None later = refl
end-twice n m k txn point priority (lease ∷ leases) None later =
    grind (arith, nat_tests, end-twice n m k txn point priority leases None later)

parts-twice : (n m k txn : ℕ) (leases : List Lease) (parts : List Part) → k ≡ max n m →
    map (part_after (expired m) (live n leases) txn) (map (part_after (expired n) leases txn) parts) ≡ map (part_after (expired k) leases txn) parts
parts-twice n m k txn leases [] later = refl
parts-twice n m k txn leases (part ∷ parts) later =
    λ i. record part { end = end-twice n m k txn part.point part.priority leases part.end later i } ∷ parts-twice n m k txn leases parts later i

pub record-twice : (n m k : ℕ) (leases : List Lease) (t : Transaction) → k ≡ max n m →
    record_after (expired m) (live n leases) (record_after (expired n) leases t) ≡ record_after (expired k) leases t
record-twice n m k leases t later = λ i. record t { parts = parts-twice n m k t.txn leases t.parts later i }

-- two rounds are one, if what passes the second test passes the first
pub twice : (f g h : Transaction → Transaction) (p q : Transaction → Bool) → ((t : Transaction) → g (f t) ≡ h t) →
    ((t : Transaction) → p (g t) ≡ p t) → ((t : Transaction) → q t ≡ true → p t ≡ true) → (ts : List Transaction) →
    filter q (map g (filter p (map f ts))) ≡ filter q (map h ts)
twice f g h p q both alike first [] = refl
twice f g h p q both alike first (t ∷ ts) =
    let rest : filter q (map g (filter p (map f ts))) ≡ filter q (map h ts) = twice f g h p q both alike first ts in
    cond_both (p (f t)) (f t ∷ filter p (map f ts)) (filter p (map f ts)) (λ zs. filter q (map g zs) ≡ filter q (h t ∷ map h ts))
    (λ _. λ i. cond (q (both t i)) (both t i ∷ rest i) (rest i))
    (λ dropped. rest ∙ ap (λ b. cond b (h t ∷ filter q (map h ts)) (filter q (map h ts)))
    (let was : p (h t) ≡ false = ap p (sym (both t)) ∙ alike (f t) ∙ dropped in
    let out : q (h t) ≡ false = grind (arith, first (h t)) in sym out))

-- ---- what becomes done

-- this does not make the transaction done
abbrev pub IsOther : ℕ → Happening → Type 0
IsOther txn h = (is_done h.told && (h.txn == txn)) ≡ false

member-drop : (txn n : ℕ) (xs : List ℕ) → member txn (drop n xs) ≡ true → member txn xs ≡ true
member-drop txn zero xs there = there
member-drop txn (suc n) [] there = there
member-drop txn (suc n) (x ∷ xs) there = grind (arith, nat_tests, member-drop txn n xs there)

pub member-snoc : (txn x : ℕ) (xs : List ℕ) → member txn (xs ++ x ∷ []) ≡ (member txn xs || (x == txn))
member-snoc txn x [] = grind (arith, nat_tests)
member-snoc txn x (y ∷ ys) = grind (arith, nat_tests, member-snoc txn x ys)

-- nobody else enters the list of done transactions
pub finish-other : (txn : ℕ) (done : List ℕ) (hs : List Happening) → AllByRecursion (IsOther txn) hs →
    member txn (fold finish done hs) ≡ true → member txn done ≡ true
finish-other txn done [] other there = there
finish-other txn done (h ∷ hs) other there =
    let before : member txn (finish done h) ≡ true = finish-other txn (finish done h) hs other.1 there in
    cond_both (is_done h.told) (keep_last done_kept (done ++ h.txn ∷ [])) done
    (λ zs. member txn zs ≡ true → is_done h.told ≡ is_done h.told → member txn done ≡ true)
    (λ yes in_it _. let all : member txn (done ++ h.txn ∷ []) ≡ true = member-drop txn (length (done ++ h.txn ∷ []) - done_kept) (done ++ h.txn ∷ []) in_it in
    let none : (is_done h.told && (h.txn == txn)) ≡ false = other.0 in
    grind (arith, nat_tests, member-snoc txn h.txn done))
    (λ _ in_it _. in_it) before refl

-- what happens in a reversion makes nothing done
turns-silent : (txn : ℕ) (c : Pending) (ts : List ℕ) → AllByRecursion (IsOther txn) (map (turned c) ts)
turns-silent txn c [] = tt
turns-silent txn c (t ∷ ts) = (refl, turns-silent txn c ts)

reverted-silent : (txn : ℕ) (c : Pending) (steps : List Step) → AllByRecursion (IsOther txn) (reverted c steps)
reverted-silent txn c [] = tt
reverted-silent txn c (step ∷ steps) = (refl, tt)

happenings-silent : (txn : ℕ) (cs : List Pending) → AllByRecursion (IsOther txn) (flat_map happenings cs)
happenings-silent txn [] = tt
happenings-silent txn (c ∷ cs) = (
  refl,
  each-append (IsOther txn) (map (turned c) (turns c.start c.steps) ++ reverted c c.steps) (flat_map happenings cs)
      (each-append (IsOther txn) (map (turned c) (turns c.start c.steps)) (reverted c c.steps) (turns-silent txn c (turns c.start c.steps)) (reverted-silent txn c c.steps))
      (happenings-silent txn cs),
)

-- a transaction without leases and reversions does not become done
done-silent : (now txn : ℕ) (cs : List Pending) → lives txn cs ≡ false → (t : Transaction) → now < (done_last cs t).at → IsOther txn (done_last cs t)
done-silent now txn cs none t later =
    cond_both (t.txn == txn) true false (λ b. (t.txn == txn) ≡ b → IsOther txn (done_last cs t))
    (λ same _. let here : t.txn ≡ txn = grind (arith, nat_tests) in
    let some : lives t.txn cs ≡ true = lives-last_end t.txn cs (omega arith) in
    let away : lives t.txn cs ≡ false = subst (λ k. lives k cs ≡ false) (sym here) none in
    absurd (cc))
    (λ other _. other) (grind arith)

pub coming-other : (now txn : ℕ) (cs : List Pending) (txns : List Transaction) → lives txn cs ≡ false → AllByRecursion (IsOther txn) (coming now cs txns)
coming-other now txn cs txns none =
    let Q = λ (h : Happening). now < h.at → IsOther txn h in
    let all : AllByRecursion Q (flat_map happenings cs ++ map (done_last cs) txns) =
    each-append Q (flat_map happenings cs) (map (done_last cs) txns)
    (each-map (IsOther txn) Q (λ h other _. other) (flat_map happenings cs) (happenings-silent txn cs))
    (each-mapped Q (done_last cs) txns (each-always (λ t. Q (done_last cs t)) (done-silent now txn cs none) txns)) in
    let test = λ (h : Happening). nat_lt now h.at in
    each-in_order (IsOther txn) rank (filter test (flat_map happenings cs ++ map (done_last cs) txns))
    (each-map (λ h. (now < h.at) × Q h) (IsOther txn) (λ h both. both.1 both.0) (filter test (flat_map happenings cs ++ map (done_last cs) txns))
    (each-both (λ h. now < h.at) Q (filter test (flat_map happenings cs ++ map (done_last cs) txns))
    (each-passed (λ h. now < h.at) test (λ h passed. grind (arith, nat_tests)) (flat_map happenings cs ++ map (done_last cs) txns))
    (each-filter Q test (flat_map happenings cs ++ map (done_last cs) txns) all)))

pub lives-left : (n txn : ℕ) (cs : List Pending) → lives txn (left n cs) ≡ true → lives txn cs ≡ true
lives-left n txn [] there = there
lives-left n txn (c ∷ cs) there = grind (arith, nat_tests, lives-left n txn cs)
