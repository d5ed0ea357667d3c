-- A tick keeps a sound persistent part sound.
use Rattle.std.proofs.Common.{◌≡◌, ℕ, ℤ, zero, suc, ◌<◌, ◌≤◌, ◌==◌, nat_lt, nat_le, List, [], ◌∷◌, ◌++◌, length, map, Bool, true, false, not, Option, Some, None, is_none, refl, ap, sym, ◌∙◌, subst, arith}
use Rattle.std.specs.List.{filter, fold, flat_map, AllByRecursion}
use Rattle.std.proofs.lemmas.Bool.{cond_both}
use Rattle.std.proofs.lemmas.Bool.Decides.{nat_tests}
use Rattle.boss_model.specs.declared.command.Step.{Step}
use Rattle.boss_model.specs.declared.notice.Cause.TheVariants as cause
use Rattle.boss_model.specs.declared.notice.What.{What}
use Rattle.boss_model.specs.declared.state.Actuator.{Actuator}
use Rattle.boss_model.specs.declared.state.Lease.{Lease}
use Rattle.boss_model.specs.declared.state.Pending.{Pending}
use Rattle.boss_model.specs.Catalogue.{fits_at}
use Rattle.boss_model.specs.Happenings.{Happening, rank, turned, reverted, happenings, lives, last_end, done_last, coming, is_done, finish, tell, later}
use Rattle.boss_model.specs.Limits.{last_moment, last_number}
use Rattle.boss_model.specs.Lists.{member}
use Rattle.boss_model.specs.Order.{comes_before, put, in_order}
use Rattle.boss_model.specs.Records.{Transaction}
use Rattle.boss_model.specs.Reversions.{over, turns, end_of, courses}
use Rattle.boss_model.specs.Sound.{Rising, is_superseded, IsWord, IsLease, IsPending, IsKnown, IsWhat, IsTransaction, has_part, is_start, is_kept, number_rank, IsSoundPersistent}
use Rattle.boss_model.specs.State.{Persistent}
use Rattle.boss_model.specs.Submit.{is_reversion}
use Rattle.boss_model.specs.Time.{live, under_way, left, due, kept, record_after, expired, tick_to}
use Rattle.law_time.proofs.Coming.{all_of, due_of, now_after, now_after-within, later-first, later-each}
use Rattle.law_time.proofs.Courses.{courses-after, lives-last_end}
use Rattle.law_time.proofs.Endings.{IsEnding, IsReverting, after_ending, ending-change}
use Rattle.law_time.proofs.Filters.{each-mapped, each-always}
use Rattle.law_time.proofs.GroupSound.{DoneOnce, IsNewlyDone, IsTidings, IsChange, IsGroup, grouped, group-sound}
use Rattle.law_time.proofs.Orders.{each-map, each-filter, each-passed, each-both, each-append, each-put, each-in_order}
use Rattle.law_time.proofs.Records.{IsOther}
use Rattle.law_time.proofs.Slots.{to-courses, kept-after, has-number}
use Rattle.law_time.proofs.TickLaw.{started-by}

-- ---- each two of a list

abbrev pub Pairs : {X : Type 0} → (X → X → Type 0) → List X → Type 0
Pairs R [] = Unit {0}
Pairs R (x ∷ xs) = AllByRecursion (R x) xs × Pairs R xs

module _ {X : Type 0} (R : X → X → Type 0) where
  pub Pairs-filter : (test : X → Bool) (xs : List X) → Pairs R xs → Pairs R (filter test xs)
  Pairs-filter test [] all = tt
  Pairs-filter test (x ∷ xs) all = cond_both (test x) (x ∷ filter test xs) (filter test xs) (Pairs R)
      (λ _. (each-filter (R x) test xs all.0, Pairs-filter test xs all.1)) (λ _. Pairs-filter test xs all.1)

  module _ (turn : (x y : X) → R x y → R y x) (rank_of : X → List ℕ) where
    Pairs-put : (x : X) (ys : List X) → AllByRecursion (R x) ys → Pairs R ys → Pairs R (put rank_of x ys)
    Pairs-put x [] here all = (tt, tt)
    Pairs-put x (y ∷ ys) here all = cond_both (comes_before (rank_of x) (rank_of y)) (x ∷ y ∷ ys) (y ∷ put rank_of x ys) (Pairs R)
        (λ _. (here, all)) (λ _. (each-put (R y) rank_of x ys (turn x y here.0) all.0, Pairs-put x ys here.1 all.1))

    pub Pairs-in_order : (xs : List X) → Pairs R xs → Pairs R (in_order rank_of xs)
    Pairs-in_order [] all = tt
    Pairs-in_order (x ∷ xs) all = Pairs-put x (in_order rank_of xs) (each-in_order (R x) rank_of xs all.0) (Pairs-in_order xs all.1)

-- ---- what becomes done

abbrev pub Once : Happening → Happening → Type 0
Once h g = is_done h.told ≡ true → IsOther h.txn g

pub Once-turn : (h g : Happening) → Once h g → Once g h
Once-turn h g once done = grind (arith, nat_tests)

pub Pairs-DoneOnce : (hs : List Happening) → Pairs Once hs → DoneOnce hs
Pairs-DoneOnce [] all = tt
Pairs-DoneOnce (h ∷ hs) all = ((λ done. each-map (Once h) (IsOther h.txn) (λ g once. once done) hs all.0), Pairs-DoneOnce hs all.1)

-- nobody becomes done by what happens in a reversion
abbrev pub IsSilent : Happening → Type 0
IsSilent h = is_done h.told ≡ false

silent-turns : (c : Pending) (ts : List ℕ) → AllByRecursion IsSilent (map (turned c) ts)
silent-turns c [] = tt
silent-turns c (t ∷ ts) = (refl, silent-turns c ts)

silent-reverted : (c : Pending) (steps : List Step) → AllByRecursion IsSilent (reverted c steps)
silent-reverted c [] = tt
silent-reverted c (step ∷ steps) = (refl, tt)

pub silent-happenings : (cs : List Pending) → AllByRecursion IsSilent (flat_map happenings cs)
silent-happenings [] = tt
silent-happenings (c ∷ cs) = (
  refl,
  each-append IsSilent (map (turned c) (turns c.start c.steps) ++ reverted c c.steps) (flat_map happenings cs)
      (each-append IsSilent (map (turned c) (turns c.start c.steps)) (reverted c c.steps) (silent-turns c (turns c.start c.steps)) (silent-reverted c c.steps)) (silent-happenings cs),
)

-- a fact of all that makes nobody done, and of all that makes somebody done, is one of all
pub to-all : (P : Happening → Type 0) (cs : List Pending) (txns : List Transaction) → ((h : Happening) → IsSilent h → P h) → AllByRecursion (λ t. P (done_last cs t)) txns →
    AllByRecursion P (all_of cs txns)
to-all P cs txns silent done = each-append P (flat_map happenings cs) (map (done_last cs) txns)
    (each-map IsSilent P silent (flat_map happenings cs) (silent-happenings cs)) (each-mapped P (done_last cs) txns done)

-- and one of what is due
pub to-due : (P : Happening → Type 0) (n now : ℕ) (cs : List Pending) (txns : List Transaction) →
    AllByRecursion (λ h. now < h.at → h.at ≤ n → P h) (all_of cs txns) → AllByRecursion P (due_of n now cs txns)
to-due P n now cs txns all =
    let test = λ (h : Happening). nat_lt now h.at in
    let early = λ (h : Happening). nat_le h.at n in
    let Q = λ (h : Happening). now < h.at → h.at ≤ n → P h in
    let R = λ (h : Happening). h.at ≤ n → P h in
    let come : AllByRecursion R (coming now cs txns) = each-in_order R rank (filter test (all_of cs txns))
    (each-map (λ h. (test h ≡ true) × Q h) R (λ h both. both.1 (grind (arith, nat_tests))) (filter test (all_of cs txns))
    (each-both (λ h. test h ≡ true) Q (filter test (all_of cs txns)) (each-passed (λ h. test h ≡ true) test (λ h passed. passed) (all_of cs txns)) (each-filter Q test (all_of cs txns) all))) in
    each-map (λ h. (early h ≡ true) × R h) P (λ h both. both.1 (grind (arith, nat_tests))) (due_of n now cs txns)
    (each-both (λ h. early h ≡ true) R (due_of n now cs txns) (each-passed (λ h. early h ≡ true) early (λ h passed. passed) (coming now cs txns)) (each-filter R early (coming now cs txns) come))

apart-numbers : (cs : List Pending) (t : Transaction) (ts : List Transaction) → AllByRecursion (λ u. comes_before (number_rank u) (number_rank t) ≡ false) ts →
    AllByRecursion (Once (done_last cs t)) (map (done_last cs) ts)
apart-numbers cs t [] later = tt
apart-numbers cs t (u ∷ us) later = ((λ _. let apart : comes_before (u.txn ∷ []) (t.txn ∷ []) ≡ false = later.0 in grind (arith, nat_tests)), apart-numbers cs t us later.1)

once-done : (cs : List Pending) (ts : List Transaction) → Rising number_rank ts → Pairs Once (map (done_last cs) ts)
once-done cs [] rising = tt
once-done cs (t ∷ ts) rising = (apart-numbers cs t ts rising.0, once-done cs ts rising.1)

pub silent-first : (hs gs : List Happening) → AllByRecursion IsSilent hs → Pairs Once gs → Pairs Once (hs ++ gs)
silent-first [] gs silent pairs = pairs
silent-first (h ∷ hs) gs silent pairs = (each-always (Once h) (λ g done. let none : is_done h.told ≡ false = silent.0 in cc) (hs ++ gs), silent-first hs gs silent.1 pairs)

pub once-due : (n now : ℕ) (cs : List Pending) (txns : List Transaction) → Rising number_rank txns → DoneOnce (due_of n now cs txns)
once-due n now cs txns rising = Pairs-DoneOnce (due_of n now cs txns)
    (Pairs-filter Once (λ h. nat_le h.at n) (coming now cs txns)
    (Pairs-in_order Once Once-turn rank (filter (λ h. nat_lt now h.at) (all_of cs txns))
    (Pairs-filter Once (λ h. nat_lt now h.at) (all_of cs txns) (silent-first (flat_map happenings cs) (map (done_last cs) txns) (silent-happenings cs) (once-done cs txns rising)))))

pub each-kept : (txns : List Transaction) → AllByRecursion (λ t. is_kept txns t.txn ≡ true) txns
each-kept [] = tt
each-kept (t ∷ ts) = (grind (arith, nat_tests), each-map (λ u. is_kept ts u.txn ≡ true) (λ u. is_kept (t ∷ ts) u.txn ≡ true) (λ u there. grind (arith, nat_tests)) ts (each-kept ts))

-- what has an end later than n has a last end later than n
lives-later : (n txn : ℕ) (cs : List Pending) → lives txn (left n cs) ≡ true → n < last_end txn cs
lives-later n txn [] alive = cc
lives-later n txn (c ∷ cs) alive = grind (arith, nat_tests, lives-later n txn cs)

-- ---- points

known-fits : (plant : List Actuator) (point : ℕ) (value : ℤ) → fits_at plant point value ≡ true → point < length plant
known-fits [] point value fit = cc
known-fits (a ∷ others) zero value fit = omega arith
known-fits (a ∷ others) (suc point) value fit = let rest : point < length others = known-fits others point value fit in omega arith

pub known-lease : (plant : List Actuator) (now : ℕ) (lease : Lease) → IsLease plant now lease → lease.point < length plant
known-lease plant now lease is = known-fits plant lease.point lease.value is.fitting

known-steps : (plant : List Actuator) (point start : ℕ) (steps : List Step) → start < over start steps → is_reversion plant point steps ≡ true → point < length plant
known-steps plant point start [] runs is = absurd (omega arith)
known-steps plant point start (step ∷ steps) runs is = known-fits plant point step.value (grind (arith))

pub known-pending : (plant : List Actuator) (now : ℕ) (r : Pending) → IsPending plant now r → r.point < length plant
known-pending plant now r is =
    let started : r.start ≤ now = is.started in
    let running : now < end_of r = is.running in
    known-steps plant r.point r.start r.steps (omega arith) is.steps

pub known-courses : (plant : List Actuator) (d : Persistent) → IsSoundPersistent plant d → AllByRecursion (λ c. c.point < length plant) (courses d.pending d.leases)
known-courses plant d sound = to-courses (λ c. c.point < length plant) d.pending d.leases
    (each-map (IsPending plant d.now) (λ r. r.point < length plant) (λ r is. known-pending plant d.now r is) d.pending sound.pending)
    (each-map (IsLease plant d.now) (λ l. l.point < length plant) (λ l is. known-lease plant d.now l is) d.leases sound.leases)

-- the numbers of transactions fit the bits that they have
pub numbers-fit : (plant : List Actuator) (d : Persistent) → IsSoundPersistent plant d → AllByRecursion (λ t. t.txn < d.next) d.txns
numbers-fit plant d sound = each-map (IsTransaction plant d) (λ t. t.txn < d.next) (λ t is. is.given) d.txns sound.txns

pub lease-numbers : (plant : List Actuator) (d : Persistent) → IsSoundPersistent plant d → AllByRecursion (λ l. l.txn < d.next) d.leases
lease-numbers plant d sound = each-map (λ l. has_part is_none d.txns l.txn l.point l.priority ≡ true) (λ l. l.txn < d.next)
    (λ l has. has-number is_none d.next d.txns l.txn l.point l.priority (numbers-fit plant d sound) has) d.leases sound.open_parts

pub pending-numbers : (plant : List Actuator) (d : Persistent) → IsSoundPersistent plant d → AllByRecursion (λ r. r.txn < d.next) d.pending
pending-numbers plant d sound = each-map (λ r. has_part (is_start r.start) d.txns r.txn r.point r.priority ≡ true) (λ r. r.txn < d.next)
    (λ r has. has-number (is_start r.start) d.next d.txns r.txn r.point r.priority (numbers-fit plant d sound) has) d.pending sound.ended_parts

pub word-of : (next txn : ℕ) → next ≤ last_number → txn < next → IsWord txn
word-of next txn few early = omega arith

-- what happens in a reversion tells of its point and of its transaction
abbrev pub IsWell : ℕ → Pending → Type 0
IsWell points c = (c.point < points) × IsWord c.txn

abbrev pub TellsOf : ℕ → ℕ → Option What → Type 0
TellsOf points txn None = Unit {0}
TellsOf points txn (Some told) = IsKnown points told × (IsWord txn × IsWhat told)

tells-turns : (points : ℕ) (c : Pending) (ts : List ℕ) → AllByRecursion (λ h. TellsOf points h.txn h.told) (map (turned c) ts)
tells-turns points c [] = tt
tells-turns points c (t ∷ ts) = (tt, tells-turns points c ts)

tells-reverted : (points : ℕ) (c : Pending) (steps : List Step) → IsWell points c → AllByRecursion (λ h. TellsOf points h.txn h.told) (reverted c steps)
tells-reverted points c [] well = tt
tells-reverted points c (step ∷ steps) well = ((well.0, (well.1, tt)), tt)

tells-happenings : (points : ℕ) (cs : List Pending) → AllByRecursion (IsWell points) cs → AllByRecursion (λ h. TellsOf points h.txn h.told) (flat_map happenings cs)
tells-happenings points [] well = tt
tells-happenings points (c ∷ cs) well =
    let T = λ (h : Happening). TellsOf points h.txn h.told in (
      (well.0.0, (well.0.1, tt)),
      each-append T (map (turned c) (turns c.start c.steps) ++ reverted c c.steps) (flat_map happenings cs)
          (each-append T (map (turned c) (turns c.start c.steps)) (reverted c c.steps) (tells-turns points c (turns c.start c.steps)) (tells-reverted points c c.steps well.0))
          (tells-happenings points cs well.1),
    )

well-courses : (plant : List Actuator) (d : Persistent) → IsSoundPersistent plant d → AllByRecursion (IsWell (length plant)) (courses d.pending d.leases)
well-courses plant d sound =
    let N = λ (c : Pending). c.txn < d.next in
    let numbers : AllByRecursion N (courses d.pending d.leases) = to-courses N d.pending d.leases (pending-numbers plant d sound) (lease-numbers plant d sound) in
    each-map (λ c. (c.point < length plant) × N c) (IsWell (length plant)) (λ c both. (both.0, word-of d.next c.txn sound.next both.1)) (courses d.pending d.leases)
    (each-both (λ c. c.point < length plant) N (courses d.pending d.leases) (known-courses plant d sound) numbers)

pub tidings : (plant : List Actuator) (now at txn : ℕ) (told : Option What) → TellsOf (length plant) txn told → at ≤ now → IsTidings plant now told at txn
tidings plant now at txn None of past = tt
tidings plant now at txn (Some told) of past = record { past = past; known = of.0; words = of.1 }

-- ---- the tick

expired-ending : (n : ℕ) (lease : Lease) → IsEnding n lease lease (expired n lease)
expired-ending n lease = record {
  same = refl;
  shorter = omega arith;
  stays = λ more. grind (arith, nat_tests);
  ends = λ over. (record { cause = cause.Expired; at = lease.until }, grind (arith, nat_tests), refl);
}

expired-reverting : (n : ℕ) (lease : Lease) → IsReverting (expired n lease)
expired-reverting n lease end is = cond_both (nat_lt n lease.until) None (Some (record { cause = cause.Expired; at = lease.until }))
    (λ how. how ≡ Some end → is_superseded end.cause ≡ false) (λ _ e. cc) (λ _ e. let same : record { cause = cause.Expired; at = lease.until } ≡ end = cc in ap (λ x. is_superseded x.cause) (sym same)) is

pub map-same : {X : Type 0} (xs : List X) → map (λ x. x) xs ≡ xs
map-same [] = refl
map-same (x ∷ xs) = ap (λ ys. x ∷ ys) (map-same xs)

pub tick-change : (plant : List Actuator) (d : Persistent) (n : ℕ) → IsSoundPersistent plant d → d.now ≤ n → n ≤ last_moment →
    IsChange plant (after_ending n (now_after n d.now (courses d.pending d.leases) d.txns) (λ lease. lease) (expired n) d)
tick-change plant d n sound within small =
    let cs = courses d.pending d.leases in
    let now = now_after n d.now cs d.txns in
    let last : now ≤ n = now_after-within n d.now cs d.txns within in
    ending-change plant d n now (λ lease. lease) (expired n) sound (later-first d.now (due n d)) last (omega arith) (each-always (λ lease. IsEnding n lease lease (expired n lease)) (expired-ending n) d.leases)
    (each-always (λ lease. IsReverting (expired n lease)) (expired-reverting n) d.leases)
    (subst (λ ls. AllByRecursion (λ c. c.start ≤ n → c.start ≤ now) (courses d.pending ls)) (sym (map-same d.leases)) (started-by n d.now cs d.txns))

-- who is told of a tick, and who becomes done
pub tick-group : (plant : List Actuator) (d : Persistent) (n : ℕ) (leases : List Lease) (pending : List Pending) → IsSoundPersistent plant d →
    courses pending leases ≡ left n (courses d.pending d.leases) →
    IsGroup plant (record d { now = now_after n d.now (courses d.pending d.leases) d.txns; leases = leases; pending = pending; txns = map (record_after (expired n) d.leases) d.txns }) (due n d)
tick-group plant d n leases pending sound after =
    let cs = courses d.pending d.leases in
    let now = now_after n d.now cs d.txns in
    let txns = map (record_after (expired n) d.leases) d.txns in
    record {
      others = each-always (λ t. lives t.txn (courses pending leases) ≡ true → AllByRecursion (IsOther t.txn) (due n d))
          (λ t alive.
          let last : n < last_end t.txn cs = lives-later n t.txn cs (ap (lives t.txn) (sym after) ∙ alive) in
          to-due (IsOther t.txn) n d.now cs d.txns (to-all (λ h. d.now < h.at → h.at ≤ n → IsOther t.txn h) cs d.txns
          (λ h silent _ _. grind (arith))
          (each-always (λ u. d.now < (done_last cs u).at → (done_last cs u).at ≤ n → IsOther t.txn (done_last cs u))
          (λ u _ early. cond_both (u.txn == t.txn) true false (λ b. (u.txn == t.txn) ≡ b → IsOther t.txn (done_last cs u))
          (λ is _. let same : u.txn ≡ t.txn = grind (arith, nat_tests) in
          let before : last_end t.txn cs ≤ n = subst (λ k. last_end k cs ≤ n) same early in absurd (omega arith))
          (λ other _. other) (grind arith)) d.txns)))
          txns;
      new = to-due (IsNewlyDone d.done) n d.now cs d.txns (to-all (λ h. d.now < h.at → h.at ≤ n → IsNewlyDone d.done h) cs d.txns
          (λ h silent _ _ done. cc)
          (each-map (λ t. member t.txn d.done ≡ not (lives t.txn cs)) (λ t. d.now < (done_last cs t).at → (done_last cs t).at ≤ n → IsNewlyDone d.done (done_last cs t))
          (λ t done after _ _. let alive : lives t.txn cs ≡ true = lives-last_end t.txn cs (omega arith) in grind (arith)) d.txns sound.done));
      known = to-due (λ h. is_done h.told ≡ true → is_kept txns h.txn ≡ true) n d.now cs d.txns (to-all (λ h. d.now < h.at → h.at ≤ n → is_done h.told ≡ true → is_kept txns h.txn ≡ true) cs d.txns
          (λ h silent _ _ done. cc)
          (each-map (λ t. is_kept d.txns t.txn ≡ true) (λ t. d.now < (done_last cs t).at → (done_last cs t).at ≤ n → is_done (done_last cs t).told ≡ true → is_kept txns t.txn ≡ true)
          (λ t there _ _ _. kept-after (expired n) d.leases d.txns t.txn ∙ there) d.txns (each-kept d.txns)));
      once = once-due n d.now cs d.txns sound.numbers;
      told =
          let T = λ (h : Happening). TellsOf (length plant) h.txn h.told in
          each-map (λ h. T h × (h.at ≤ now)) (λ h. IsTidings plant now h.told h.at h.txn) (λ h both. tidings plant now h.at h.txn h.told both.0 both.1) (due n d)
          (each-both T (λ h. h.at ≤ now) (due n d)
          (to-due T n d.now cs d.txns (each-map T (λ h. d.now < h.at → h.at ≤ n → T h) (λ h tells _ _. tells) (all_of cs d.txns)
          (each-append T (flat_map happenings cs) (map (done_last cs) d.txns) (tells-happenings (length plant) cs (well-courses plant d sound))
          (each-mapped T (done_last cs) d.txns (each-map (λ t. t.txn < d.next) (λ t. T (done_last cs t)) (λ t early. (tt, (word-of d.next t.txn sound.next early, tt))) d.txns (numbers-fit plant d sound))))))
          (later-each d.now (due n d)));
    }

pub tick-sound : (plant : List Actuator) (d : Persistent) (n : ℕ) → IsSoundPersistent plant d → d.now ≤ n → n ≤ last_moment → IsSoundPersistent plant (tick_to n d)
tick-sound plant d n sound within small =
    let cs = courses d.pending d.leases in
    let now = now_after n d.now cs d.txns in
    let txns = map (record_after (expired n) d.leases) d.txns in
    let changed : Persistent = record d { now = now; leases = live n d.leases; pending = under_way n cs; txns = txns } in
    let change : IsChange plant changed = subst (λ ls. IsChange plant (record d { now = now; leases = live n ls; pending = under_way n (courses d.pending ls); txns = txns })) (map-same d.leases)
    (tick-change plant d n sound within small) in
    let after : courses (under_way n cs) (live n d.leases) ≡ left n cs = courses-after n d.pending d.leases
    (each-map (IsPending plant d.now) (λ r. r.start ≤ n) (λ r is. let s : r.start ≤ d.now = is.started in omega arith) d.pending sound.pending) sound.slots in
    let whole : IsSoundPersistent plant (grouped (due n d) changed) = group-sound plant changed (due n d) change (tick-group plant d n (live n d.leases) (under_way n cs) sound after) in
    subst (λ xs. IsSoundPersistent plant (record changed { txns = kept xs (fold finish d.done (due n d)) txns; done = fold finish d.done (due n d); processes = fold tell d.processes (due n d) })) after whole
