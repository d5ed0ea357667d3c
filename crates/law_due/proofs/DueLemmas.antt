-- What is told as time passes, as the code finds it and as the model's list of what is due has it.
use Rattle.std.proofs.Common.{◌≡◌, ℕ, ◌+◌, ◌<◌, ◌≤◌, ◌==◌, max, nat_lt, nat_le, List, [], ◌∷◌, ◌++◌, length, Bool, true, false, ◌&&◌, ◌||◌, cond, Option, Some, None, map, refl, ap, sym, ◌∙◌, subst, arith, append_assoc, length-append}
use Rattle.std.specs.List.{filter, fold, flat_map, AllByRecursion}
use Rattle.std.proofs.lemmas.List.{length-map}
use Rattle.std.proofs.lemmas.Bool.{cond_both}
use Rattle.std.proofs.lemmas.Bool.Decides.{nat_tests}
use Rattle.boss_model.specs.declared.command.Step.{Step}
use Rattle.boss_model.specs.declared.notice.Cause.TheVariants as cause
use Rattle.boss_model.specs.declared.notice.What.{What}
use Rattle.boss_model.specs.declared.state.Actuator.{Actuator}
use Rattle.boss_model.specs.declared.state.Lease.{Lease}
use Rattle.boss_model.specs.declared.state.Pending.{Pending}
use Rattle.boss_model.specs.Happenings.{Happening, rank, ended, turned, reverted, happenings, lives, last_end, done_last, coming, is_done, finish, tell_of, tell, later}
use Rattle.boss_model.specs.Lists.{member, latest}
use Rattle.boss_model.specs.Order.{comes_before, put, in_order}
use Rattle.boss_model.specs.Records.{Transaction}
use Rattle.boss_model.specs.Reversions.{hold, over, turns, end_of, reversion_of, courses}
use Rattle.boss_model.specs.Sound.{IsLease, IsPending, IsSoundPersistent}
use Rattle.boss_model.specs.State.{pending_slot, Process, Persistent}
use Rattle.boss_model.specs.Time.{live, under_way, left, due, kept, record_after, expired, tick_to}
use Rattle.law_time.proofs.Coming.{later-first, later-most, all_of, now_after, quiet}
use Rattle.law_time.proofs.Courses.{over-later, courses-after}
use Rattle.law_time.proofs.Filters.{filter-filter, filter-alike, filter-append, filter-map, each-mapped, each-always, each-flat_map, few-filter}
use Rattle.law_time.proofs.GroupSound.{tell-length}
use Rattle.law_time.proofs.NothingDue.{of-pending, of-leases, nothing-due}
use Rattle.law_time.proofs.Orders.{each-append, each-map, each-filter, each-in_order, each-front, each-back, filter-in_order}
use Rattle.law_time.proofs.Slots.{to-courses}
use Rattle.law_time.proofs.TickSound.{to-due}
use Rattle.law_due.specs.Due.{reverted_by, lease_told, is_done_by, done_told, due_told, is_told, is_some_told, last_of_lease, last_of_pending, last_due}
use Rattle.law_due.specs.Playing.{last_turn}
use Rattle.law_due.proofs.Ordering.{in_order-front, flat_map-moved, all-apart, in_order-append}
use Rattle.law_due.proofs.Owners.{owner_of, pending-owned, leases-owned, txns-owned}
use Rattle.law_due.proofs.ToldApart.{IsToldOf, told-apart}

-- ---- what nobody is told changes nobody

untold-tell : (told : Option What) (ps : List Process) (h : Happening) → is_told told ≡ false → tell_of told ps h ≡ ps
untold-tell None ps h silent = refl
untold-tell (Some told) ps h silent = cc

untold-done : (told : Option What) → is_told told ≡ false → is_done told ≡ false
untold-done None silent = refl
untold-done (Some told) silent = cc

pub tell-told : (ps : List Process) (hs : List Happening) → fold tell ps (filter is_some_told hs) ≡ fold tell ps hs
tell-told ps [] = refl
tell-told ps (h ∷ hs) = cond_both (is_some_told h) (h ∷ filter is_some_told hs) (filter is_some_told hs) (λ gs. fold tell ps gs ≡ fold tell (tell ps h) hs)
    (λ _. tell-told (tell ps h) hs)
    (λ silent. tell-told ps hs ∙ ap (λ qs. fold tell qs hs) (sym (untold-tell h.told ps h silent)))

pub finish-told : (done : List ℕ) (hs : List Happening) → fold finish done (filter is_some_told hs) ≡ fold finish done hs
finish-told done [] = refl
finish-told done (h ∷ hs) = cond_both (is_some_told h) (h ∷ filter is_some_told hs) (filter is_some_told hs) (λ gs. fold finish done gs ≡ fold finish (finish done h) hs)
    (λ _. finish-told (finish done h) hs)
    (λ silent. let same : finish done h ≡ done = rw (untold-done h.told silent) refl in finish-told done hs ∙ ap (λ xs. fold finish xs hs) (sym same))

-- ---- what is left lives on

pub left-courses : (plant : List Actuator) (d : Persistent) (n : ℕ) → IsSoundPersistent plant d → d.now ≤ n →
    courses (under_way n (courses d.pending d.leases)) (live n d.leases) ≡ left n (courses d.pending d.leases)
left-courses plant d n sound within = courses-after n d.pending d.leases
    (each-map (IsPending plant d.now) (λ r. r.start ≤ n) (λ r is. let s : r.start ≤ d.now = is.started in omega arith) d.pending sound.pending) sound.slots

-- ---- the last moment that is due: the last turn of steps

-- no moment of these up to n is later than `last`
abbrev pub AreBy : ℕ → ℕ → List ℕ → Type 0
AreBy n last moments = AllByRecursion (λ t. t ≤ n → t ≤ last) moments

greatest-first : (now : ℕ) (ts : List ℕ) → now ≤ fold max now ts
greatest-first now [] = omega arith
greatest-first now (t ∷ ts) = omega (arith, greatest-first (max now t) ts)

-- of the moments later than `now` and up to n the greatest, or a greater one that was there before
greatest-each : (n now first : ℕ) (ts : List ℕ) → now ≤ first → AreBy n (fold max first (filter (λ t. nat_lt now t && nat_le t n) ts)) ts
greatest-each n now first [] within = tt
greatest-each n now first (t ∷ ts) within = cond_both (nat_lt now t && nat_le t n) (t ∷ filter (λ t. nat_lt now t && nat_le t n) ts) (filter (λ t. nat_lt now t && nat_le t n) ts)
    (λ xs. AreBy n (fold max first xs) (t ∷ ts))
    (λ _. (
      (λ _. let more : max first t ≤ fold max (max first t) (filter (λ t. nat_lt now t && nat_le t n) ts) = greatest-first (max first t) (filter (λ t. nat_lt now t && nat_le t n) ts) in omega arith),
      greatest-each n now (max first t) ts (omega arith),
    ))
    (λ out. (
      (λ early. let more : first ≤ fold max first (filter (λ t. nat_lt now t && nat_le t n) ts) = greatest-first first (filter (λ t. nat_lt now t && nat_le t n) ts) in
          let past : t ≤ now = grind (arith, nat_tests) in omega arith),
      greatest-each n now first ts within,
    ))

greatest-most : (n now first most : ℕ) (ts : List ℕ) → first ≤ most → AreBy n most ts → fold max first (filter (λ t. nat_lt now t && nat_le t n) ts) ≤ most
greatest-most n now first most [] within all = within
greatest-most n now first most (t ∷ ts) within all = cond_both (nat_lt now t && nat_le t n) (t ∷ filter (λ t. nat_lt now t && nat_le t n) ts) (filter (λ t. nat_lt now t && nat_le t n) ts)
    (λ xs. fold max first xs ≤ most)
    (λ passed. let here : t ≤ most = all.0 (grind (arith, nat_tests)) in greatest-most n now (max first t) most ts (omega arith) all.1)
    (λ _. greatest-most n now first most ts within all.1)

last_turn-first : (start : ℕ) (steps : List Step) (now n : ℕ) → now ≤ last_turn start steps now n
last_turn-first start steps now n = greatest-first now (filter (λ t. nat_lt now t && nat_le t n) (turns start steps))

last_turn-each : (start : ℕ) (steps : List Step) (now n : ℕ) → AreBy n (last_turn start steps now n) (turns start steps)
last_turn-each start steps now n = greatest-each n now now (turns start steps) (omega arith)

last_turn-most : (start : ℕ) (steps : List Step) (now n most : ℕ) → now ≤ most → AreBy n most (turns start steps) → last_turn start steps now n ≤ most
last_turn-most start steps now n most within all = greatest-most n now now most (turns start steps) within all

-- ---- that of all leases and reversions

-- neither the start of the reversion nor the end of one of its steps is up to n and later than `last`
abbrev pub IsBy : ℕ → ℕ → Pending → Type 0
IsBy n last c = (c.start ≤ n → c.start ≤ last) × AreBy n last (turns c.start c.steps)

by-later : (n last more : ℕ) (c : Pending) → last ≤ more → IsBy n last c → IsBy n more c
by-later n last more c later is = (
  (λ early. let before : c.start ≤ last = is.0 early in omega arith),
  each-map (λ t. t ≤ n → t ≤ last) (λ t. t ≤ n → t ≤ more) (λ t by early. let before : t ≤ last = by early in omega arith) (turns c.start c.steps) is.1,
)

turns-late : (n start last : ℕ) (steps : List Step) → n < start → AreBy n last (turns start steps)
turns-late n start last [] late = tt
turns-late n start last (step ∷ steps) late = ((λ early. absurd (omega arith)), turns-late n (start + hold step) last steps (omega arith))

last_of_lease-first : (n last : ℕ) (lease : Lease) → last ≤ last_of_lease n last lease
last_of_lease-first n last lease = cond_both (nat_le lease.until n) (last_turn lease.until lease.revert (max last lease.until) n) last (λ k. last ≤ k)
    (λ _. omega (arith, last_turn-first lease.until lease.revert (max last lease.until) n)) (λ _. omega arith)

last_of_lease-by : (n last : ℕ) (lease : Lease) → IsBy n (last_of_lease n last lease) (reversion_of lease)
last_of_lease-by n last lease = cond_both (nat_le lease.until n) (last_turn lease.until lease.revert (max last lease.until) n) last (λ k. IsBy n k (reversion_of lease))
    (λ _. ((λ _. omega (arith, last_turn-first lease.until lease.revert (max last lease.until) n)), last_turn-each lease.until lease.revert (max last lease.until) n))
    (λ late. let after : n < lease.until = grind (arith, nat_tests) in ((λ early. absurd (omega arith)), turns-late n lease.until last lease.revert after))

last_of_lease-most : (n last most : ℕ) (lease : Lease) → last ≤ most → IsBy n most (reversion_of lease) → last_of_lease n last lease ≤ most
last_of_lease-most n last most lease within by = cond_both (nat_le lease.until n) (last_turn lease.until lease.revert (max last lease.until) n) last (λ k. k ≤ most)
    (λ early. let start : lease.until ≤ most = by.0 (grind (arith, nat_tests)) in last_turn-most lease.until lease.revert (max last lease.until) n most (omega arith) by.1)
    (λ _. within)

last_of_leases-first : (n last : ℕ) (leases : List Lease) → last ≤ fold (last_of_lease n) last leases
last_of_leases-first n last [] = omega arith
last_of_leases-first n last (lease ∷ leases) = omega (arith, last_of_lease-first n last lease, last_of_leases-first n (last_of_lease n last lease) leases)

last_of_leases-by : (n last : ℕ) (leases : List Lease) → AllByRecursion (λ lease. IsBy n (fold (last_of_lease n) last leases) (reversion_of lease)) leases
last_of_leases-by n last [] = tt
last_of_leases-by n last (lease ∷ leases) = (
  by-later n (last_of_lease n last lease) (fold (last_of_lease n) (last_of_lease n last lease) leases) (reversion_of lease)
      (last_of_leases-first n (last_of_lease n last lease) leases) (last_of_lease-by n last lease),
  last_of_leases-by n (last_of_lease n last lease) leases,
)

last_of_leases-most : (n last most : ℕ) (leases : List Lease) → last ≤ most → AllByRecursion (λ lease. IsBy n most (reversion_of lease)) leases → fold (last_of_lease n) last leases ≤ most
last_of_leases-most n last most [] within by = within
last_of_leases-most n last most (lease ∷ leases) within by =
    last_of_leases-most n (last_of_lease n last lease) most leases (last_of_lease-most n last most lease within by.0) by.1

last_of_pending-first : (n last : ℕ) (pending : List Pending) → last ≤ fold (last_of_pending n) last pending
last_of_pending-first n last [] = omega arith
last_of_pending-first n last (r ∷ rs) = omega (arith, last_turn-first r.start r.steps last n, last_of_pending-first n (last_of_pending n last r) rs)

last_of_pending-by : (n last : ℕ) (pending : List Pending) → AllByRecursion (λ r. r.start ≤ last) pending → AllByRecursion (λ r. IsBy n (fold (last_of_pending n) last pending) r) pending
last_of_pending-by n last [] started = tt
last_of_pending-by n last (r ∷ rs) started =
    let here : last ≤ last_of_pending n last r = last_turn-first r.start r.steps last n in (
      by-later n (last_of_pending n last r) (fold (last_of_pending n) (last_of_pending n last r) rs) r (last_of_pending-first n (last_of_pending n last r) rs)
          ((λ _. let start : r.start ≤ last = started.0 in omega arith), last_turn-each r.start r.steps last n),
      last_of_pending-by n (last_of_pending n last r) rs (each-map (λ x. x.start ≤ last) (λ x. x.start ≤ last_of_pending n last r) (λ x start. omega arith) rs started.1),
    )

last_of_pending-most : (n last most : ℕ) (pending : List Pending) → last ≤ most → AllByRecursion (IsBy n most) pending → fold (last_of_pending n) last pending ≤ most
last_of_pending-most n last most [] within by = within
last_of_pending-most n last most (r ∷ rs) within by = last_of_pending-most n (last_of_pending n last r) most rs (last_turn-most r.start r.steps last n most within by.0.1) by.1

-- ---- against the list of what is due

-- all that happens in a reversion is up to `last`, if its starts and turns are
by-turned : (n last : ℕ) (c : Pending) (ts : List ℕ) → AreBy n last ts → AllByRecursion (λ h. h.at ≤ n → h.at ≤ last) (map (turned c) ts)
by-turned n last c [] by = tt
by-turned n last c (t ∷ ts) by = (by.0, by-turned n last c ts by.1)

by-over : (n last start : ℕ) (steps : List Step) → (start ≤ n → start ≤ last) → AreBy n last (turns start steps) → over start steps ≤ n → over start steps ≤ last
by-over n last start [] here by = here
by-over n last start (step ∷ steps) here by = by-over n last (start + hold step) steps by.0 by.1

by-reverted : (n last : ℕ) (c : Pending) (steps : List Step) → (end_of c ≤ n → end_of c ≤ last) → AllByRecursion (λ h. h.at ≤ n → h.at ≤ last) (reverted c steps)
by-reverted n last c [] by = tt
by-reverted n last c (step ∷ steps) by = (by, tt)

by-happenings : (n last : ℕ) (cs : List Pending) → AllByRecursion (IsBy n last) cs → AllByRecursion (λ h. h.at ≤ n → h.at ≤ last) (flat_map happenings cs)
by-happenings n last [] by = tt
by-happenings n last (c ∷ cs) by =
    let P = λ (h : Happening). h.at ≤ n → h.at ≤ last in
    each-append P (happenings c) (flat_map happenings cs) (
      by.0.0,
      each-append P (map (turned c) (turns c.start c.steps)) (reverted c c.steps) (by-turned n last c (turns c.start c.steps) by.0.1)
          (by-reverted n last c c.steps (by-over n last c.start c.steps by.0.0 by.0.1)),
    )
    (by-happenings n last cs by.1)

by-last_end : (n last txn : ℕ) (cs : List Pending) → AllByRecursion (IsBy n last) cs → last_end txn cs ≤ n → last_end txn cs ≤ last
by-last_end n last txn [] by early = omega arith
by-last_end n last txn (c ∷ cs) by early =
    let rest : last_end txn cs ≤ n → last_end txn cs ≤ last = by-last_end n last txn cs by.1 in
    let here : end_of c ≤ n → end_of c ≤ last = by-over n last c.start c.steps by.0.0 by.0.1 in
    cond_both (c.txn == txn) (c ∷ filter (λ x. x.txn == txn) cs) (filter (λ x. x.txn == txn) cs) (λ xs. latest (map end_of xs) ≤ n → latest (map end_of xs) ≤ last)
    (λ _ both. let p : last_end txn cs ≤ last = rest (omega arith) in let q : end_of c ≤ last = here (omega arith) in omega arith) (λ _. rest) early

turned-by : (n last : ℕ) (c : Pending) (ts : List ℕ) → AllByRecursion (λ h. h.at ≤ n → h.at ≤ last) (map (turned c) ts) → AreBy n last ts
turned-by n last c [] by = tt
turned-by n last c (t ∷ ts) by = (by.0, turned-by n last c ts by.1)

happenings-by : (n last : ℕ) (cs : List Pending) → AllByRecursion (λ h. h.at ≤ n → h.at ≤ last) (flat_map happenings cs) → AllByRecursion (IsBy n last) cs
happenings-by n last [] by = tt
happenings-by n last (c ∷ cs) by =
    let P = λ (h : Happening). h.at ≤ n → h.at ≤ last in
    let here : AllByRecursion P (happenings c) = each-front P (happenings c) (flat_map happenings cs) by in (
      (here.0, turned-by n last c (turns c.start c.steps) (each-front P (map (turned c) (turns c.start c.steps)) (reverted c c.steps) here.1)),
      happenings-by n last cs (each-back P (happenings c) (flat_map happenings cs) by),
    )

pub last-due : (plant : List Actuator) (d : Persistent) (n : ℕ) → IsSoundPersistent plant d → d.now ≤ n → last_due n d ≡ fold later d.now (due n d)
last-due plant d n sound within =
    let cs = courses d.pending d.leases in
    let last = now_after n d.now cs d.txns in
    let leased = fold (last_of_lease n) d.now d.leases in
    let first : d.now ≤ leased = last_of_leases-first n d.now d.leases in
    let more : leased ≤ last_due n d = last_of_pending-first n leased d.pending in
    let P = λ (h : Happening). h.at ≤ n → h.at ≤ last in
    let by : AllByRecursion (IsBy n last) cs = happenings-by n last cs (each-front P (flat_map happenings cs) (map (done_last cs) d.txns) (quiet n d.now cs d.txns)) in
    let below : last_due n d ≤ last = last_of_pending-most n leased last d.pending
    (last_of_leases-most n d.now last d.leases (later-first d.now (due n d)) (of-leases (IsBy n last) d.pending d.leases by)) (of-pending (IsBy n last) d.pending d.leases by) in
    let all : AllByRecursion (IsBy n (last_due n d)) cs = to-courses (IsBy n (last_due n d)) d.pending d.leases
    (last_of_pending-by n leased d.pending (each-map (IsPending plant d.now) (λ r. r.start ≤ leased) (λ r is. let s : r.start ≤ d.now = is.started in omega arith) d.pending sound.pending))
    (each-map (λ lease. IsBy n leased (reversion_of lease)) (λ lease. IsBy n (last_due n d) (reversion_of lease)) (λ lease is. by-later n leased (last_due n d) (reversion_of lease) more is)
    d.leases (last_of_leases-by n d.now d.leases)) in
    let Q = λ (h : Happening). h.at ≤ n → h.at ≤ last_due n d in
    let happen : AllByRecursion Q (all_of cs d.txns) = each-append Q (flat_map happenings cs) (map (done_last cs) d.txns) (by-happenings n (last_due n d) cs all)
    (each-mapped Q (done_last cs) d.txns (each-always (λ t. Q (done_last cs t)) (λ t early. by-last_end n (last_due n d) t.txn cs all early) d.txns)) in
    let dues : AllByRecursion (λ h. h.at ≤ last_due n d) (due n d) = to-due (λ h. h.at ≤ last_due n d) n d.now cs d.txns
    (each-map Q (λ h. d.now < h.at → h.at ≤ n → h.at ≤ last_due n d) (λ h by _ early. by early) (all_of cs d.txns) happen) in
    let above : last ≤ last_due n d = later-most (last_due n d) d.now (due n d) (omega arith) dues in
    omega arith

-- ---- where nothing is due

none-later : (now : ℕ) (hs : List Happening) → AllByRecursion (λ h. now < h.at) hs → fold later now hs ≤ now → hs ≡ []
none-later now [] after within = refl
none-later now (h ∷ hs) after within =
    let here : now < h.at = after.0 in
    let more : max now h.at ≤ fold later (max now h.at) hs = later-first (max now h.at) hs in absurd (omega arith)

pub not-due : (plant : List Actuator) (d : Persistent) (n : ℕ) → IsSoundPersistent plant d → d.now ≤ n → last_due n d ≡ d.now → tick_to n d ≡ d
not-due plant d n sound within same =
    let cs = courses d.pending d.leases in
    let last : last_due n d ≡ fold later d.now (due n d) = last-due plant d n sound within in
    let after : AllByRecursion (λ h. d.now < h.at) (due n d) = to-due (λ h. d.now < h.at) n d.now cs d.txns
    (each-always (λ h. d.now < h.at → h.at ≤ n → d.now < h.at) (λ h more _. more) (all_of cs d.txns)) in
    nothing-due plant d n sound within (none-later d.now (due n d) after (omega arith))

-- ---- what is told of one reversion

filter-flat_map : {X Y : Type 0} (test : Y → Bool) (f : X → List Y) (xs : List X) → filter test (flat_map f xs) ≡ flat_map (λ x. filter test (f x)) xs
filter-flat_map test f [] = refl
filter-flat_map test f (x ∷ xs) = filter-append test (f x) (flat_map f xs) ∙ ap (λ ys. filter test (f x) ++ ys) (filter-flat_map test f xs)

flat_map-append : {X Y : Type 0} (f : X → List Y) (xs ys : List X) → flat_map f (xs ++ ys) ≡ flat_map f xs ++ flat_map f ys
flat_map-append f [] ys = refl
flat_map-append f (x ∷ xs) ys = ap (λ zs. f x ++ zs) (flat_map-append f xs ys) ∙ sym (append_assoc (f x) (flat_map f xs) (flat_map f ys))

flat_map-map : {X Y Z : Type 0} (f : Y → List Z) (g : X → Y) (xs : List X) → flat_map f (map g xs) ≡ flat_map (λ x. f (g x)) xs
flat_map-map f g [] = refl
flat_map-map f g (x ∷ xs) = ap (λ zs. f (g x) ++ zs) (flat_map-map f g xs)

flat_map-same : {X Y : Type 0} (f g : X → List Y) (xs : List X) → AllByRecursion (λ x. f x ≡ g x) xs → flat_map f xs ≡ flat_map g xs
flat_map-same f g [] same = refl
flat_map-same f g (x ∷ xs) same = λ i. same.0 i ++ flat_map-same f g xs same.1 i

-- it is due, and somebody is told
abbrev is_due_told : ℕ → ℕ → Happening → Bool
is_due_told now n h = nat_lt now h.at && (nat_le h.at n && is_some_told h)

abbrev told_of : ℕ → ℕ → Pending → List Happening
told_of now n c = filter (is_due_told now n) (happenings c)

silent-turned : (now n : ℕ) (c : Pending) (ts : List ℕ) → filter (is_due_told now n) (map (turned c) ts) ≡ []
silent-turned now n c [] = refl
silent-turned now n c (t ∷ ts) = grind (arith, silent-turned now n c ts)

told-reverted : (now n : ℕ) (c : Pending) (steps : List Step) → now < end_of c →
    filter (is_due_told now n) (reverted c steps) ≡ cond (nat_le (end_of c) n) (reverted c steps) []
told-reverted now n c [] more = grind arith
told-reverted now n c (step ∷ steps) more = grind (arith, nat_tests)

-- what comes after the start of a reversion
told-after : (now n : ℕ) (c : Pending) → now < end_of c →
    filter (is_due_told now n) (map (turned c) (turns c.start c.steps) ++ reverted c c.steps) ≡ reverted_by n c
told-after now n c more = filter-append (is_due_told now n) (map (turned c) (turns c.start c.steps)) (reverted c c.steps)
    ∙ ap (λ hs. hs ++ filter (is_due_told now n) (reverted c c.steps)) (silent-turned now n c (turns c.start c.steps))
    ∙ told-reverted now n c c.steps more

told-pending : (now n : ℕ) (r : Pending) → r.start ≤ now → now < end_of r → told_of now n r ≡ reverted_by n r
told-pending now n r started running =
    let before : is_due_told now n (ended cause.Expired r) ≡ false = grind (arith, nat_tests) in rw before (told-after now n r running)

told-lease : (now n : ℕ) (lease : Lease) → now < lease.until → told_of now n (reversion_of lease) ≡ lease_told n lease
told-lease now n lease more =
    let c = reversion_of lease in
    let over : lease.until ≤ end_of c = over-later lease.until lease.revert in
    let rest : filter (is_due_told now n) (map (turned c) (turns c.start c.steps) ++ reverted c c.steps) ≡ reverted_by n c = told-after now n c (omega arith) in
    cond_both (nat_le lease.until n) (ended cause.Expired c ∷ reverted_by n c) [] (λ hs. told_of now n c ≡ hs)
    (λ due. let here : is_due_told now n (ended cause.Expired c) ≡ true = grind (arith, nat_tests) in rw here (ap (λ hs. ended cause.Expired c ∷ hs) rest))
    (λ late. let here : is_due_told now n (ended cause.Expired c) ≡ false = grind (arith, nat_tests) in
    let after : nat_le (end_of c) n ≡ false = grind (arith, nat_tests) in
    rw here (rest ∙ ap (λ b. cond b (reverted c c.steps) []) after))

told-courses : (plant : List Actuator) (d : Persistent) (n : ℕ) → IsSoundPersistent plant d →
    flat_map (told_of d.now n) (d.pending ++ map reversion_of d.leases) ≡ flat_map (reverted_by n) d.pending ++ flat_map (lease_told n) d.leases
told-courses plant d n sound = flat_map-append (told_of d.now n) d.pending (map reversion_of d.leases)
    ∙ (λ i. flat_map-same (told_of d.now n) (reverted_by n) d.pending
    (each-map (IsPending plant d.now) (λ r. told_of d.now n r ≡ reverted_by n r) (λ r is. told-pending d.now n r is.started is.running) d.pending sound.pending) i
    ++ (flat_map-map (told_of d.now n) reversion_of d.leases ∙ flat_map-same (λ lease. told_of d.now n (reversion_of lease)) (lease_told n) d.leases
    (each-map (IsLease plant d.now) (λ lease. told_of d.now n (reversion_of lease) ≡ lease_told n lease) (λ lease is. told-lease d.now n lease is.live) d.leases sound.leases)) i)

-- ---- they are told apart

module _ (owner : ℕ → ℕ) where
  abbrev Own : Happening → Type 0
  Own = IsToldOf owner cause.Expired 0

  own-turned : (c : Pending) (ts : List ℕ) → c.owner ≡ owner c.txn → AllByRecursion Own (map (turned c) ts)
  own-turned c [] owned = tt
  own-turned c (t ∷ ts) owned = ((owned, tt), own-turned c ts owned)

  own-reverted : (c : Pending) (steps : List Step) → c.owner ≡ owner c.txn → AllByRecursion Own (reverted c steps)
  own-reverted c [] owned = tt
  own-reverted c (step ∷ steps) owned = ((owned, tt), tt)

  own-happenings : (c : Pending) → c.owner ≡ owner c.txn → AllByRecursion Own (happenings c)
  own-happenings c owned = (
    (owned, refl),
    each-append Own (map (turned c) (turns c.start c.steps)) (reverted c c.steps) (own-turned c (turns c.start c.steps) owned) (own-reverted c c.steps owned),
  )

  own-told : (now n : ℕ) (c : Pending) → c.owner ≡ owner c.txn → AllByRecursion Own (told_of now n c)
  own-told now n c owned = each-filter Own (is_due_told now n) (happenings c) (own-happenings c owned)

  own-done : (now n : ℕ) (cs : List Pending) (txns : List Transaction) → AllByRecursion (λ t. t.owner ≡ owner t.txn) txns → AllByRecursion Own (done_told now n cs txns)
  own-done now n cs txns owned = each-mapped Own (done_last cs) (filter (is_done_by now n cs) txns) (each-filter (λ t. Own (done_last cs t)) (is_done_by now n cs) txns
      (each-map (λ t. t.owner ≡ owner t.txn) (λ t. Own (done_last cs t)) (λ t own. (own, tt)) txns owned))

own-courses : (plant : List Actuator) (d : Persistent) (n : ℕ) → IsSoundPersistent plant d →
    AllByRecursion (λ c. AllByRecursion (Own (owner_of d.txns)) (told_of d.now n c)) (d.pending ++ map reversion_of d.leases)
own-courses plant d n sound =
    let own = λ (c : Pending). AllByRecursion (Own (owner_of d.txns)) (told_of d.now n c) in
    each-append own d.pending (map reversion_of d.leases)
    (each-map (λ r. r.owner ≡ owner_of d.txns r.txn) own (λ r owned. own-told (owner_of d.txns) d.now n r owned) d.pending (pending-owned plant d sound))
    (each-mapped own reversion_of d.leases (each-map (λ lease. lease.owner ≡ owner_of d.txns lease.txn) (λ lease. own (reversion_of lease))
    (λ lease owned. own-told (owner_of d.txns) d.now n (reversion_of lease) owned) d.leases (leases-owned plant d sound)))

-- ---- what is told, in order

pub due-told : (plant : List Actuator) (d : Persistent) (n : ℕ) → IsSoundPersistent plant d → in_order rank (due_told n d) ≡ filter is_some_told (due n d)
due-told plant d n sound =
    let cs = courses d.pending d.leases in
    let owner = owner_of d.txns in
    let O = Own owner in
    let apart = told-apart owner cause.Expired 0 in
    let f = told_of d.now n in
    let leased = flat_map (lease_told n) d.leases in
    let under = flat_map (reverted_by n) d.pending in
    let done = done_told d.now n cs d.txns in
    let P = is_due_told d.now n in
    let early = λ (h : Happening). nat_le h.at n in
    let after = λ (h : Happening). nat_lt d.now h.at in
    let all = all_of cs d.txns in
    let owns = own-courses plant d n sound in
    let own_all : AllByRecursion O (under ++ leased) = subst (AllByRecursion O) (told-courses plant d n sound)
    (each-flat_map O f (d.pending ++ map reversion_of d.leases) owns) in
    let own_under : AllByRecursion O under = each-front O under leased own_all in
    let own_leased : AllByRecursion O leased = each-back O under leased own_all in
    let own_done : AllByRecursion O done = own-done owner d.now n cs d.txns (txns-owned plant d sound) in
    let own_moved : AllByRecursion O (flat_map f cs) = each-flat_map O f cs
    (each-in_order (λ c. AllByRecursion O (f c)) pending_slot (d.pending ++ map reversion_of d.leases) owns) in
    let one : filter is_some_told (due n d) ≡ in_order rank (filter P all) =
    filter-filter is_some_told early (λ h. early h && is_some_told h) (λ h. refl) (coming d.now cs d.txns)
    ∙ filter-in_order rank (λ h. early h && is_some_told h) (filter after all)
    ∙ ap (in_order rank) (filter-filter (λ h. early h && is_some_told h) after P (λ h. refl) all) in
    let dones : filter P (map (done_last cs) d.txns) ≡ done = filter-map P (done_last cs) d.txns
    ∙ ap (map (done_last cs)) (filter-alike (λ t. P (done_last cs t)) (is_done_by d.now n cs) (λ t. grind (arith)) d.txns) in
    let parts : filter P all ≡ flat_map f cs ++ done = filter-append P (flat_map happenings cs) (map (done_last cs) d.txns)
    ∙ (λ i. filter-flat_map P happenings cs i ++ dones i) in
    let moved : in_order rank (flat_map f cs) ≡ in_order rank (under ++ leased) =
    flat_map-moved rank O apart pending_slot f (d.pending ++ map reversion_of d.leases) owns ∙ ap (in_order rank) (told-courses plant d n sound) in
    let around : in_order rank (flat_map f cs ++ done) ≡ in_order rank (done ++ flat_map f cs) =
    in_order-append rank (flat_map f cs) done (all-apart rank O apart (flat_map f cs ++ done) (each-append O (flat_map f cs) done own_moved own_done)) in
    let leases_first : in_order rank (under ++ leased) ≡ in_order rank (leased ++ under) =
    in_order-append rank under leased (all-apart rank O apart (under ++ leased) own_all) in
    let told_last : in_order rank (done ++ (leased ++ under)) ≡ in_order rank ((leased ++ under) ++ done) =
    in_order-append rank done (leased ++ under) (all-apart rank O apart (done ++ (leased ++ under)) (each-append O done (leased ++ under) own_done (each-append O leased under own_leased own_under))) in
    sym (one ∙ ap (in_order rank) parts ∙ around ∙ in_order-front rank done (flat_map f cs) (leased ++ under) (moved ∙ leases_first) ∙ told_last)

-- ---- what is there after a tick

length-put : {X : Type 0} (order : X → List ℕ) (x : X) (ys : List X) → length (put order x ys) ≡ length ys + 1
length-put order x [] = refl
length-put order x (y ∷ ys) = cond_both (comes_before (order x) (order y)) (x ∷ y ∷ ys) (y ∷ put order x ys) (λ zs. length zs ≡ length (y ∷ ys) + 1)
    (λ _. omega arith) (λ _. omega (arith, length-put order x ys))

pub length-in_order : {X : Type 0} (order : X → List ℕ) (xs : List X) → length (in_order order xs) ≡ length xs
length-in_order order [] = refl
length-in_order order (x ∷ xs) = omega (arith, length-put order x (in_order order xs), length-in_order order xs)

few-started : (n : ℕ) (leases : List Lease) → length (live n leases) + length (filter (λ lease. nat_le lease.until n && nat_lt n (end_of (reversion_of lease))) leases) ≤ length leases
few-started n [] = omega arith
few-started n (lease ∷ leases) =
    let rest : length (live n leases) + length (filter (λ l. nat_le l.until n && nat_lt n (end_of (reversion_of l))) leases) ≤ length leases = few-started n leases in
    grind (arith, nat_tests)

-- a lease is followed by at most one reversion
pub few-courses : (n : ℕ) (pending : List Pending) (leases : List Lease) → length (live n leases) + length (under_way n (courses pending leases)) ≤ length leases + length pending
few-courses n pending leases =
    let test = λ (r : Pending). nat_le r.start n && nat_lt n (end_of r) in
    let begun = filter (λ lease. nat_le lease.until n && nat_lt n (end_of (reversion_of lease))) leases in
    let parts : under_way n (courses pending leases) ≡ in_order pending_slot (filter test pending ++ map reversion_of begun) =
    filter-in_order pending_slot test (pending ++ map reversion_of leases)
    ∙ ap (in_order pending_slot) (filter-append test pending (map reversion_of leases) ∙ ap (λ rs. filter test pending ++ rs) (filter-map test reversion_of leases)) in
    omega (
      arith,
      ap length parts,
      length-in_order pending_slot (filter test pending ++ map reversion_of begun),
      length-append (filter test pending) (map reversion_of begun),
      length-map begun reversion_of,
      few-filter test pending,
      few-started n leases,
    )

-- no command but a submit makes more of anything
pub record IsNoMore (before after : Persistent) : Type 0 where
  pub both : length after.leases + length after.pending ≤ length before.leases + length before.pending
  pub leases : length after.leases ≤ length before.leases
  pub txns : length after.txns ≤ length before.txns
  pub processes : length after.processes ≡ length before.processes
  pub next : after.next ≡ before.next

pub few-kept : (reversions : List Pending) (done : List ℕ) (change : Transaction → Transaction) (txns : List Transaction) → length (kept reversions done (map change txns)) ≤ length txns
few-kept reversions done change txns =
    omega (arith, few-filter (λ t. lives t.txn reversions || member t.txn done) (map change txns), length-map txns change)

pub few-after : (n : ℕ) (d : Persistent) → IsNoMore d (tick_to n d)
few-after n d = record {
  both = few-courses n d.pending d.leases;
  leases = few-filter (λ lease. nat_lt n lease.until) d.leases;
  txns = few-kept (left n (courses d.pending d.leases)) (tick_to n d).done (record_after (expired n) d.leases) d.txns;
  processes = tell-length d.processes (due n d);
  next = refl;
}
