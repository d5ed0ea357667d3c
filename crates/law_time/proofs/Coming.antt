-- What is to come after a tick is the rest of what was to come before it.
use Rattle.std.proofs.Common.{◌≡◌, ℕ, ◌<◌, ◌≤◌, max, nat_lt, nat_le, List, [], ◌∷◌, ◌++◌, Bool, true, false, cond, map, refl, ap, sym, ◌∙◌, arith}
use Rattle.std.specs.List.{filter, fold, flat_map, AllByRecursion}
use Rattle.std.proofs.lemmas.Bool.{cond_both}
use Rattle.std.proofs.lemmas.Bool.Decides.{nat_tests}
use Rattle.boss_model.specs.declared.state.Pending.{Pending}
use Rattle.boss_model.specs.Happenings.{Happening, rank, happenings, lives, last_end, done_last, coming, later}
use Rattle.boss_model.specs.Order.{in_order}
use Rattle.boss_model.specs.Records.{Transaction}
use Rattle.boss_model.specs.Reversions.{end_of}
use Rattle.boss_model.specs.Time.{left}
use Rattle.law_time.proofs.Courses.{happenings-within, last_end-left, lives-last_end}
use Rattle.law_time.proofs.Filters.{filter-filter, filter-same, filter-append, filter-none, each-unfilter}
use Rattle.law_time.proofs.Orders.{each-front, each-back, each-map, each-passed, each-unordered, filter-in_order}

-- ---- the last moment

pub later-first : (now : ℕ) (hs : List Happening) → now ≤ fold later now hs
later-first now [] = omega arith
later-first now (h ∷ hs) = omega (arith, later-first (max now h.at) hs)

pub later-each : (now : ℕ) (hs : List Happening) → AllByRecursion (λ h. h.at ≤ fold later now hs) hs
later-each now [] = tt
later-each now (h ∷ hs) = (omega (arith, later-first (max now h.at) hs), later-each (max now h.at) hs)

pub later-most : (n now : ℕ) (hs : List Happening) → now ≤ n → AllByRecursion (λ h. h.at ≤ n) hs → fold later now hs ≤ n
later-most n now [] within all = within
later-most n now (h ∷ hs) within all = later-most n (max now h.at) hs (omega (arith, all.0)) all.1

-- ---- all that happens, before and after `now`

abbrev pub all_of : List Pending → List Transaction → List Happening
all_of cs txns = flat_map happenings cs ++ map (done_last cs) txns

-- what is due up to n
abbrev pub due_of : ℕ → ℕ → List Pending → List Transaction → List Happening
due_of n now cs txns = filter (λ h. nat_le h.at n) (coming now cs txns)

-- the last moment that is due up to n
abbrev pub now_after : ℕ → ℕ → List Pending → List Transaction → ℕ
now_after n now cs txns = fold later now (due_of n now cs txns)

pub now_after-within : (n now : ℕ) (cs : List Pending) (txns : List Transaction) → now ≤ n → now_after n now cs txns ≤ n
now_after-within n now cs txns within = later-most n now (due_of n now cs txns) within
    (each-passed (λ h. h.at ≤ n) (λ h. nat_le h.at n) (λ h passed. grind (arith, nat_tests)) (coming now cs txns))

-- nothing happens later than the last due moment and up to n
pub quiet : (n now : ℕ) (cs : List Pending) (txns : List Transaction) →
    AllByRecursion (λ h. h.at ≤ n → h.at ≤ now_after n now cs txns) (all_of cs txns)
quiet n now cs txns =
    let P = λ (h : Happening). h.at ≤ n → h.at ≤ now_after n now cs txns in
    let seen : AllByRecursion P (due_of n now cs txns) = each-map (λ h. h.at ≤ now_after n now cs txns) P (λ h e _. e) (due_of n now cs txns) (later-each now (due_of n now cs txns)) in
    let to_come : AllByRecursion P (coming now cs txns) = each-unfilter P (λ h. nat_le h.at n) (λ h failed within. absurd (grind (arith, nat_tests))) (coming now cs txns) seen in
    let unsorted : AllByRecursion P (filter (λ h. nat_lt now h.at) (all_of cs txns)) = each-unordered P rank (filter (λ h. nat_lt now h.at) (all_of cs txns)) to_come in
    each-unfilter P (λ h. nat_lt now h.at) (λ h failed _. let first : now ≤ now_after n now cs txns = later-first now (due_of n now cs txns) in grind (arith, nat_tests)) (all_of cs txns) unsorted

-- ---- after a tick to n

courses-left : (n now : ℕ) → now ≤ n → (cs : List Pending) → AllByRecursion (λ h. h.at ≤ n → h.at ≤ now) (flat_map happenings cs) →
    filter (λ h. nat_lt now h.at) (flat_map happenings (left n cs)) ≡ filter (λ h. nat_lt n h.at) (flat_map happenings cs)
courses-left n now within [] silent = refl
courses-left n now within (c ∷ cs) silent =
    let P = λ (h : Happening). h.at ≤ n → h.at ≤ now in
    let here : AllByRecursion P (happenings c) = each-front P (happenings c) (flat_map happenings cs) silent in
    let rest : filter (λ h. nat_lt now h.at) (flat_map happenings (left n cs)) ≡ filter (λ h. nat_lt n h.at) (flat_map happenings cs) =
    courses-left n now within cs (each-back P (happenings c) (flat_map happenings cs) silent) in
    cond_both (nat_lt n (end_of c)) (c ∷ left n cs) (left n cs)
    (λ zs. filter (λ h. nat_lt now h.at) (flat_map happenings zs) ≡ filter (λ h. nat_lt n h.at) (happenings c ++ flat_map happenings cs))
    (λ more. filter-append (λ h. nat_lt now h.at) (happenings c) (flat_map happenings (left n cs))
    ∙ (λ i. filter-same (λ h. nat_lt now h.at) (λ h. nat_lt n h.at) (happenings c)
    (each-map P (λ h. nat_lt now h.at ≡ nat_lt n h.at) (λ h quiet. grind (arith, nat_tests, quiet)) (happenings c) here) i ++ rest i)
    ∙ sym (filter-append (λ h. nat_lt n h.at) (happenings c) (flat_map happenings cs)))
    (λ past. rest
    ∙ ap (λ zs. zs ++ filter (λ h. nat_lt n h.at) (flat_map happenings cs)) (sym (filter-none (λ h. nat_lt n h.at) (happenings c)
    (each-map (λ h. h.at ≤ end_of c) (λ h. nat_lt n h.at ≡ false) (λ h early. grind (arith, nat_tests)) (happenings c) (happenings-within c))))
    ∙ sym (filter-append (λ h. nat_lt n h.at) (happenings c) (flat_map happenings cs)))

done-left : (n now : ℕ) (cs : List Pending) (f : Transaction → Transaction) (keeps : Transaction → Bool) →
    now ≤ n → ((t : Transaction) → ((f t).txn ≡ t.txn) × ((f t).owner ≡ t.owner)) →
    ((t : Transaction) → lives t.txn (left n cs) ≡ true → keeps t ≡ true) → (txns : List Transaction) →
    AllByRecursion (λ h. h.at ≤ n → h.at ≤ now) (map (done_last cs) txns) →
    filter (λ h. nat_lt now h.at) (map (done_last (left n cs)) (filter keeps (map f txns))) ≡ filter (λ h. nat_lt n h.at) (map (done_last cs) txns)
done-left n now cs f keeps within same living [] silent = refl
done-left n now cs f keeps within same living (t ∷ ts) silent =
    let rest : filter (λ h. nat_lt now h.at) (map (done_last (left n cs)) (filter keeps (map f ts))) ≡ filter (λ h. nat_lt n h.at) (map (done_last cs) ts) =
    done-left n now cs f keeps within same living ts silent.1 in
    let number : (f t).txn ≡ t.txn = (same t).0 in
    let owner : (f t).owner ≡ t.owner = (same t).1 in
    let end : last_end (f t).txn (left n cs) ≡ cond (nat_lt n (last_end t.txn cs)) (last_end t.txn cs) 0 = ap (λ k. last_end k (left n cs)) number ∙ last_end-left n t.txn cs in
    cond_both (nat_lt n (last_end t.txn cs)) (done_last cs t ∷ filter (λ h. nat_lt n h.at) (map (done_last cs) ts)) (filter (λ h. nat_lt n h.at) (map (done_last cs) ts))
    (λ zs. filter (λ h. nat_lt now h.at) (map (done_last (left n cs)) (filter keeps (f t ∷ map f ts))) ≡ zs)
    (λ more.
    let last : last_end (f t).txn (left n cs) ≡ last_end t.txn cs = grind (arith, nat_tests) in
    let some : 0 < last_end (f t).txn (left n cs) = grind (arith, nat_tests) in
    let kept : keeps (f t) ≡ true = living (f t) (lives-last_end (f t).txn (left n cs) some) in
    let event : done_last (left n cs) (f t) ≡ done_last cs t = λ i. record { at = last i; txn = number i; owner = owner i; told = (done_last cs t).told } in
    let later : nat_lt now (last_end (f t).txn (left n cs)) ≡ true = grind (arith, nat_tests) in
    rw (kept, later) (λ i. event i ∷ rest i))
    (λ over.
    let last : last_end (f t).txn (left n cs) ≡ 0 = grind (arith, nat_tests) in
    cond_both (keeps (f t)) (f t ∷ filter keeps (map f ts)) (filter keeps (map f ts))
    (λ zs. filter (λ h. nat_lt now h.at) (map (done_last (left n cs)) zs) ≡ filter (λ h. nat_lt n h.at) (map (done_last cs) ts))
    (λ _. let early : nat_lt now (last_end (f t).txn (left n cs)) ≡ false = grind (arith, nat_tests) in rw early rest) (λ _. rest))

pub coming-after : (n now : ℕ) (cs : List Pending) (txns : List Transaction) (f : Transaction → Transaction) (keeps : Transaction → Bool) →
    now ≤ n → ((t : Transaction) → ((f t).txn ≡ t.txn) × ((f t).owner ≡ t.owner)) →
    ((t : Transaction) → lives t.txn (left n cs) ≡ true → keeps t ≡ true) →
    coming (now_after n now cs txns) (left n cs) (filter keeps (map f txns)) ≡ filter (λ h. nat_lt n h.at) (coming now cs txns)
coming-after n now cs txns f keeps within same living =
    let now2 = now_after n now cs txns in
    let within2 : now2 ≤ n = now_after-within n now cs txns within in
    let silent : AllByRecursion (λ h. h.at ≤ n → h.at ≤ now2) (all_of cs txns) = quiet n now cs txns in
    let P = λ (h : Happening). h.at ≤ n → h.at ≤ now2 in
    let courses_part : filter (λ h. nat_lt now2 h.at) (flat_map happenings (left n cs)) ≡ filter (λ h. nat_lt n h.at) (flat_map happenings cs) =
    courses-left n now2 within2 cs (each-front P (flat_map happenings cs) (map (done_last cs) txns) silent) in
    let done_part : filter (λ h. nat_lt now2 h.at) (map (done_last (left n cs)) (filter keeps (map f txns))) ≡ filter (λ h. nat_lt n h.at) (map (done_last cs) txns) =
    done-left n now2 cs f keeps within2 same living txns (each-back P (flat_map happenings cs) (map (done_last cs) txns) silent) in
    ap (in_order rank) (filter-append (λ h. nat_lt now2 h.at) (flat_map happenings (left n cs)) (map (done_last (left n cs)) (filter keeps (map f txns)))
    ∙ (λ i. courses_part i ++ done_part i)
    ∙ sym (filter-append (λ h. nat_lt n h.at) (flat_map happenings cs) (map (done_last cs) txns))
    ∙ sym (filter-filter (λ h. nat_lt n h.at) (λ h. nat_lt now h.at) (λ h. nat_lt n h.at) (λ h. grind (arith, nat_tests)) (all_of cs txns)))
    ∙ sym (filter-in_order rank (λ h. nat_lt n h.at) (filter (λ h. nat_lt now h.at) (all_of cs txns)))
