-- The numbers of a feed ascend: so with more lines no fewer events are known.
use Rattle.std.proofs.Common.{◌≡◌, ℕ, zero, suc, ◌+◌, ◌-◌, ◌≤◌, nat_lt, nat_le, ◌==◌, Bool, true, false, List, [], ◌∷◌, ◌++◌, length, map, take, drop, refl, sym, ap, ◌∙◌, subst, arith}
use Rattle.std.specs.Prelude.{if◌then◌else◌}
use Rattle.std.proofs.lemmas.List.{take-append-drop}
use Rattle.boss_model.specs.declared.event.Event.{Event}
use Rattle.boss_model.specs.State.{Persistent}
use Rattle.def_bytes.specs.Events.{event}
use Rattle.def_bytes.specs.States.{state}
use Rattle.def_feed.specs.Feeds.{event_items, feed_items, pieces}
use Rattle.def_feed.specs.Histories.{whole_since, last_whole}
use Rattle.def_feed.specs.Items.{Item, StateLine, PartLine, EventLine}

-- no number is below the one before it, and the first is not below this one
abbrev pub Ascend : ℕ → List Item → Type 0
Ascend least [] = Unit {0}
Ascend least (StateLine many size ∷ items) = (least ≤ many) × Ascend many items
Ascend least (PartLine bytes ∷ items) = Ascend least items
Ascend least (EventLine many bytes ∷ items) = (least ≤ many) × Ascend many items

pub ascend-front : (least : ℕ) (xs ys : List Item) → Ascend least (xs ++ ys) → Ascend least xs
ascend-front least [] ys all = tt
ascend-front least (StateLine many size ∷ xs) ys all = (all.0, ascend-front many xs ys all.1)
ascend-front least (PartLine bytes ∷ xs) ys all = ascend-front least xs ys all
ascend-front least (EventLine many bytes ∷ xs) ys all = (all.0, ascend-front many xs ys all.1)

-- ---- what was wholly told

least-of : (test : Bool) (least a b : ℕ) → least ≤ a → least ≤ b → least ≤ (if test then a else b)
least-of true least a b one other = one
least-of false least a b one other = other

both-less : (test : Bool) (a b c d : ℕ) → a ≤ c → b ≤ d → (if test then a else b) ≤ (if test then c else d)
both-less true a b c d one other = one
both-less false a b c d one other = other

still-whole : (items : List Item) (least last number due : ℕ) → Ascend least items → last ≤ number → number ≤ least → last ≤ whole_since last number due items
still-whole [] least last number due all older here = omega arith
still-whole (StateLine many size ∷ items) least last number due all older here =
    let done : many ≤ whole_since many many 0 items = still-whole items many many many 0 all.1 (omega arith) (omega arith) in
    least-of (size == 0) last (whole_since many many 0 items) (whole_since last many size items)
    (omega (arith, all.0)) (still-whole items many last many size all.1 (omega (arith, all.0)) (omega arith))
still-whole (PartLine bytes ∷ items) least last number due all older here =
    let done : number ≤ whole_since number number 0 items = still-whole items least number number 0 all (omega arith) here in
    least-of (nat_le due (length bytes)) last (whole_since number number 0 items) (whole_since last number (due - length bytes) items)
    (omega arith) (still-whole items least last number (due - length bytes) all older here)
still-whole (EventLine many bytes ∷ items) least last number due all older here =
    let done : many ≤ whole_since many many 0 items = still-whole items many many many 0 all.1 (omega arith) (omega arith) in omega (arith, all.0)

more-whole : (xs ys : List Item) (least last number due : ℕ) → Ascend least (xs ++ ys) → last ≤ number → number ≤ least →
    whole_since last number due xs ≤ whole_since last number due (xs ++ ys)
more-whole [] ys least last number due all older here = still-whole ys least last number due all older here
more-whole (StateLine many size ∷ xs) ys least last number due all older here =
    both-less (size == 0) (whole_since many many 0 xs) (whole_since last many size xs) (whole_since many many 0 (xs ++ ys)) (whole_since last many size (xs ++ ys))
    (more-whole xs ys many many many 0 all.1 (omega arith) (omega arith)) (more-whole xs ys many last many size all.1 (omega (arith, all.0)) (omega arith))
more-whole (PartLine bytes ∷ xs) ys least last number due all older here =
    both-less (nat_le due (length bytes)) (whole_since number number 0 xs) (whole_since last number (due - length bytes) xs)
    (whole_since number number 0 (xs ++ ys)) (whole_since last number (due - length bytes) (xs ++ ys))
    (more-whole xs ys least number number 0 all (omega arith) here) (more-whole xs ys least last number (due - length bytes) all older here)
more-whole (EventLine many bytes ∷ xs) ys least last number due all older here = more-whole xs ys many many many 0 all.1 (omega arith) (omega arith)

-- more lines of what ascends tell no lower number
pub whole-more : (items : List Item) (i j : ℕ) → Ascend 0 items → i ≤ j → last_whole (take i items) ≤ last_whole (take j items)
whole-more items i j all less =
    let front : take i (take j items) ++ drop i (take j items) ≡ take j items = take-append-drop i (take j items) in
    let same : take i (take j items) ≡ take i items = take-less items i j less in
    let here : Ascend 0 (take j items) = ascend-front 0 (take j items) (drop j items) (subst (Ascend 0) (sym (take-append-drop j items)) all) in
    let is : take i items ++ drop i (take j items) ≡ take j items = ap (λ xs. xs ++ drop i (take j items)) (sym same) ∙ front in
    subst (λ xs. last_whole (take i items) ≤ last_whole xs) is
    (more-whole (take i items) (drop i (take j items)) 0 0 0 0 (subst (Ascend 0) (sym is) here) (omega arith) (omega arith))
  where
    take-less : (xs : List Item) (m n : ℕ) → m ≤ n → take m (take n xs) ≡ take m xs
    take-less [] zero zero few = refl
    take-less [] zero (suc n) few = refl
    take-less [] (suc m) zero few = refl
    take-less [] (suc m) (suc n) few = refl
    take-less (x ∷ xs) zero n few = refl
    take-less (x ∷ xs) (suc m) zero few = absurd (omega (arith, few))
    take-less (x ∷ xs) (suc m) (suc n) few = ap (λ ys. x ∷ ys) (take-less xs m n (omega (arith, few)))

-- ---- a feed

ascend-events : (from number least : ℕ) (events : List Event) → least ≤ number → Ascend least (event_items from number events)
ascend-events from number least [] here = tt
ascend-events from number least (e ∷ events) here =
    by (nat_lt from number) (ascend-events from (number + 1) number events (omega arith)) (ascend-events from (number + 1) least events (omega arith))
  where
    by : (test : Bool) → Ascend number (event_items from (number + 1) events) → Ascend least (event_items from (number + 1) events) →
        Ascend least (if test then EventLine number (event.text e) ∷ event_items from (number + 1) events else event_items from (number + 1) events)
    by true told other = (here, told)
    by false told other = other

ascend-parts : (least : ℕ) (parts : List (List ℕ)) (items : List Item) → Ascend least items → Ascend least (map PartLine parts ++ items)
ascend-parts least [] items all = all
ascend-parts least (part ∷ parts) items all = ascend-parts least parts items all

pub feed-ascends : (from : ℕ) (base : Persistent) (before : ℕ) (events : List Event) → Ascend 0 (feed_items from base before events)
feed-ascends from base before events = by (nat_lt from before)
  where
    text : List ℕ
    text = (state 2).text base

    by : (test : Bool) → Ascend 0 ((if test then StateLine before (length ((state 2).text base)) ∷ map PartLine (pieces (length ((state 2).text base)) ((state 2).text base)) else [])
        ++ event_items from (before + 1) events)
    by true = (omega arith, ascend-parts before (pieces (length ((state 2).text base)) ((state 2).text base)) (event_items from (before + 1) events) (ascend-events from (before + 1) before events (omega arith)))
    by false = ascend-events from (before + 1) 0 events (omega arith)
