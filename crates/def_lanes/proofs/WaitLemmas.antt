-- What waiters noted stands at the places of their workers; and pauses are counted, and keep their lengths.
use Rattle.std.proofs.Common.{◌≡◌, ◌⊎◌, inl, inr, ℕ, zero, suc, ◌+◌, ◌<◌, ◌≤◌, ◌||◌, min, max, Bool, List, [], ◌∷◌, ◌++◌, length, cond, true, false, Some, refl, sym, ap, ◌∙◌, subst, arith}
use Rattle.std.specs.List.{AllByRecursion, filter, slice_get}
use Rattle.boss_model.specs.Limits.{last_number}
use Rattle.def_history.specs.declared.entry.Entry.{Entry}
use Rattle.def_history.specs.declared.entry.Entry.TheVariants.{Did, Broke}
use Rattle.def_history.specs.History.{deeds}
use Rattle.boss_outside_server.specs.declared.waited.Lengths.{Lengths}
use Rattle.boss_outside_server.specs.declared.waited.Lengths.TheVariants.{Within}
use Rattle.boss_outside_server.specs.declared.waited.Waited.{Waited}
use Rattle.boss_outside_server.specs.declared.waiter.Woke.{Woke}
use Rattle.boss_outside_server.specs.declared.waiter.Woke.TheVariants.{Again, Close}
use Rattle.boss_outside_server.specs.Waits.{after_pause, closes_after, lengths_after, listening, one_pause_more}
use Rattle.def_lanes.specs.Lanes.{only}
use Rattle.def_lanes.specs.Waits.{AreWaited, AreWaitedAt, AreWithin, CountsClosed, HasClosed, IsNoteOf, IsWaited, PausedAround, PausedFor, PausedWithin, WaitedAt, paused}
use Rattle.def_lanes.specs.Works.{Work, visit, beat, drive, closed_in, course_of, owner, works_of, AreOf}
use Rattle.def_lanes.proofs.Lists.{each-append, each-map, each-both}
use Rattle.def_lanes.proofs.Owners.{works-first, works-last}

slice_get-front : {X : Type 0} (xs ys : List X) (i : ℕ) (x : X) → slice_get xs i ≡ Some x → slice_get (xs ++ ys) i ≡ Some x
slice_get-front [] ys i x is = absurd cc
slice_get-front (y ∷ xs) ys zero x is = is
slice_get-front (y ∷ xs) ys (suc i) x is = slice_get-front xs ys i x is

slice_get-last : {X : Type 0} (xs : List X) (x : X) → slice_get (xs ++ x ∷ []) (length xs) ≡ Some x
slice_get-last [] x = refl
slice_get-last (y ∷ xs) x = slice_get-last xs x

waited-front : (workers : ℕ) (notes more : List Waited) (work : Work) → IsWaited workers notes work → IsWaited workers (notes ++ more) work
waited-front workers notes more (visit served course) is = tt
waited-front workers notes more (beat waited course) is = slice_get-front notes more workers waited is
waited-front workers notes more (drive driver calls waited course) is = slice_get-front notes more (workers + 1 + driver) waited is

at_last : (notes : List Waited) (note other : Waited) (place : ℕ) → note ≡ other → length notes ≤ place → place < suc (length notes) →
    slice_get (notes ++ note ∷ []) place ≡ Some other
at_last notes note other place is low high =
    let here : place ≡ length notes = omega arith in
    ap (slice_get (notes ++ note ∷ [])) here ∙ slice_get-last notes note ∙ ap Some is

waited-last : (workers : ℕ) (notes : List Waited) (note : Waited) (work : Work) → IsNoteOf note work →
    (length notes ≤ owner workers work) × (owner workers work < suc (length notes)) → IsWaited workers (notes ++ note ∷ []) work
waited-last workers notes note (visit served course) is within = tt
waited-last workers notes note (beat waited course) is within = at_last notes note waited workers is within.0 within.1
waited-last workers notes note (drive driver calls waited course) is within = at_last notes note waited (workers + 1 + driver) is within.0 within.1

pub waited-next : (workers : ℕ) (notes : List Waited) (note : Waited) (xs ys : List Work) → AreWaited workers notes xs →
    AreOf workers (length notes) (suc (length notes)) ys → AllByRecursion (IsNoteOf note) ys → AreWaited workers (notes ++ note ∷ []) (xs ++ ys)
waited-next workers notes note xs ys waited of_next are =
    each-append (IsWaited workers (notes ++ note ∷ [])) xs ys
    (each-map (IsWaited workers notes) (IsWaited workers (notes ++ note ∷ [])) (waited-front workers notes (note ∷ [])) xs waited)
    (each-both (IsNoteOf note) (λ work. (length notes ≤ owner workers work) × (owner workers work < suc (length notes))) (IsWaited workers (notes ++ note ∷ []))
    (waited-last workers notes note) ys are of_next)

-- ---- each note is that of its worker

-- a note behind others stands before the last place or there
front-or-last : (notes : List Waited) (note waited : Waited) (place : ℕ) → slice_get (notes ++ note ∷ []) place ≡ Some waited →
    ((place < length notes) × (slice_get notes place ≡ Some waited)) ⊎ ((place ≡ length notes) × (note ≡ waited))
front-or-last [] note waited zero is = inr (refl, cc)
front-or-last [] note waited (suc place) is = absurd cc
front-or-last (first ∷ notes) note waited zero is = inl (omega arith, is)
front-or-last (first ∷ notes) note waited (suc place) is = later (front-or-last notes note waited place is)
  where
    later : ((place < length notes) × (slice_get notes place ≡ Some waited)) ⊎ ((place ≡ length notes) × (note ≡ waited)) →
        ((suc place < suc (length notes)) × (slice_get notes place ≡ Some waited)) ⊎ ((suc place ≡ suc (length notes)) × (note ≡ waited))
    later (inl front) = let less = front.0 in inl (omega arith, front.1)
    later (inr last) = inr (ap suc last.0, last.1)

pub waited-at-next : (workers : ℕ) (notes : List Waited) (note : Waited) (xs ys : List Work) → AreWaitedAt workers notes xs →
    AreOf workers 0 (length notes) xs → AreOf workers (length notes) (suc (length notes)) ys → WaitedAt workers (length notes) ys note →
    AreWaitedAt workers (notes ++ note ∷ []) (xs ++ ys)
waited-at-next workers notes note xs ys before of_first of_next last number waited is = placed (front-or-last notes note waited number is)
  where
    placed : ((number < length notes) × (slice_get notes number ≡ Some waited)) ⊎ ((number ≡ length notes) × (note ≡ waited)) →
        WaitedAt workers number (works_of workers number (xs ++ ys)) waited
    placed (inl front) =
        subst (λ own. WaitedAt workers number own waited) (sym (works-first workers number (length notes) xs ys of_next front.0)) (before number waited front.1)
    placed (inr here) =
        subst (λ place. WaitedAt workers place (works_of workers place (xs ++ ys)) waited) (sym here.0)
        (subst (WaitedAt workers (length notes) (works_of workers (length notes) (xs ++ ys))) here.1
        (subst (λ own. WaitedAt workers (length notes) own note) (sym (works-last workers (length notes) xs ys of_first of_next)) last))

-- ---- pauses of a length from a least to a most

some-within : (pauses least most low high : ℕ) → 0 < pauses → least ≤ low → low ≤ high → high ≤ most → AreWithin pauses least most (Within low high)
some-within zero least most low high some less ordered more = absurd (omega arith)
some-within (suc pauses) least most low high some less ordered more = (low, high, refl, less, ordered, more)

within-more : (pauses least most milliseconds : ℕ) (lengths : Lengths) → least ≤ milliseconds → milliseconds ≤ most → AreWithin pauses least most lengths →
    AreWithin (one_pause_more pauses) least most (lengths_after lengths milliseconds)
within-more zero least most milliseconds lengths less more is =
    subst (λ (before : Lengths). AreWithin (one_pause_more zero) least most (lengths_after before milliseconds)) (sym is)
    (some-within (one_pause_more zero) least most milliseconds milliseconds (omega arith) less (omega arith) more)
within-more (suc pauses) least most milliseconds lengths less more (low, high, is, fits, ordered, ends) =
    subst (λ (before : Lengths). AreWithin (one_pause_more (suc pauses)) least most (lengths_after before milliseconds)) (sym is)
    (some-within (one_pause_more (suc pauses)) least most (min low milliseconds) (max high milliseconds)
    (omega arith) (omega arith) (omega arith) (omega arith))

pub within-wider : (pauses least low high most : ℕ) (lengths : Lengths) → least ≤ low → high ≤ most → AreWithin pauses low high lengths →
    AreWithin pauses least most lengths
within-wider zero least low high most lengths less more is = is
within-wider (suc pauses) least low high most lengths less more (from, to, is, fits, ordered, ends) =
    (from, to, is, omega arith, ordered, omega arith)

-- ---- pauses that said Close

closed-behind : (works : List Work) (work : Work) → closed_in (works ++ work ∷ []) ≡ closed_in works + cond {A = ℕ} (course_of work).closed 1 0
closed-behind [] work = omega arith
closed-behind (first ∷ works) work = let rest = closed-behind works work in omega (arith, rest)

closes-more : (woke : Woke) (closes : ℕ) → HasClosed false closes (closes_after woke closes)
closes-more Again closes = omega arith
closes-more Close closes = omega arith

pub closed-close : (woke : Woke) (milliseconds : ℕ) (old new : Waited) → woke ≡ Close → new ≡ after_pause milliseconds woke old → HasClosed true old.closes new.closes
closed-close Again milliseconds old new close is = absurd cc
closed-close Close milliseconds old new close is = let counted : new.closes ≡ one_pause_more old.closes = ap (λ (it : Waited). it.closes) is in omega (arith, counted)

-- one connection more
pub closed-more : (works : List Work) (work : Work) (old new : Waited) → CountsClosed works old → HasClosed (course_of work).closed old.closes new.closes →
    CountsClosed (works ++ work ∷ []) new
closed-more works work old new before one =
    let all : closed_in (works ++ work ∷ []) ≡ closed_in works + cond {A = ℕ} (course_of work).closed 1 0 = closed-behind works work in
    by (course_of work).closed one all
  where
    by : (closed : Bool) → HasClosed closed old.closes new.closes → closed_in (works ++ work ∷ []) ≡ closed_in works + cond {A = ℕ} closed 1 0 →
        CountsClosed (works ++ work ∷ []) new
    by true one all = omega (arith, before, one, all)
    by false one all = omega (arith, before, one, all)

-- what one call counted, and then another
pub closed-both : (first then : Bool) (old between new : ℕ) → HasClosed first old between → HasClosed then between new → HasClosed (first || then) old new
closed-both true true old between new once again = omega (arith, once, again)
closed-both true false old between new once again = omega (arith, once, again)
closed-both false true old between new once again = omega (arith, once, again)
closed-both false false old between new once again = omega (arith, once, again)

-- ---- calls one after another

pub none-within : (least most : ℕ) (waited : Waited) → PausedWithin least most waited waited
none-within least most waited = record { steady = λ is. is; closes = omega arith; expected = refl; leaving = refl; bell = refl }

pub one-within : (least most milliseconds : ℕ) (woke : Woke) (old new : Waited) → least ≤ milliseconds → milliseconds ≤ most →
    new ≡ after_pause milliseconds woke old → PausedWithin least most old new
one-within least most milliseconds woke old new less more is =
    subst (PausedWithin least most old) (sym is)
    (record { steady = within-more old.pauses least most milliseconds old.lengths less more; closes = closes-more woke old.closes; expected = refl; leaving = refl; bell = refl })

pub both-within : (least most : ℕ) (old between new : Waited) → PausedWithin least most old between → PausedWithin least most between new →
    PausedWithin least most old new
both-within least most old between new first then = record {
  steady = λ is. then.steady (first.steady is);
  closes = closed-both false false old.closes between.closes new.closes first.closes then.closes;
  expected = then.expected ∙ first.expected;
  leaving = then.leaving ∙ first.leaving;
  bell = then.bell ∙ first.bell;
}

-- of one length

pub paused-none : (milliseconds : ℕ) (waited : Waited) → PausedFor milliseconds waited waited
paused-none milliseconds waited = none-within milliseconds milliseconds waited

pub paused-one : (milliseconds : ℕ) (woke : Woke) (old new : Waited) → new ≡ after_pause milliseconds woke old → PausedFor milliseconds old new
paused-one milliseconds woke old new is = one-within milliseconds milliseconds milliseconds woke old new (omega arith) (omega arith) is

pub paused-both : (milliseconds : ℕ) (old between new : Waited) → PausedFor milliseconds old between → PausedFor milliseconds between new →
    PausedFor milliseconds old new
paused-both milliseconds old between new first then = both-within milliseconds milliseconds old between new first then

-- where bells are listened at

pub around-none : (milliseconds : ℕ) (waited : Waited) → PausedAround milliseconds waited waited
around-none milliseconds waited = record { steady = λ is. is; closes = omega arith; expected = refl; leaving = refl; bell = refl }

pub around-at : (milliseconds bell : ℕ) (old between new : Waited) → between ≡ listening bell old → PausedFor milliseconds between new → PausedAround milliseconds old new
around-at milliseconds bell old between new heard paused =
    let after : PausedFor milliseconds (listening bell old) new = subst (λ at. PausedFor milliseconds at new) heard paused in
    record { steady = after.steady; closes = after.closes; expected = after.expected; leaving = after.leaving; bell = refl }

pub around-both : (milliseconds : ℕ) (old between new : Waited) → PausedAround milliseconds old between → PausedAround milliseconds between new →
    PausedAround milliseconds old new
around-both milliseconds old between new first then = record {
  steady = λ is. then.steady (first.steady is);
  closes = closed-both false false old.closes between.closes new.closes first.closes then.closes;
  expected = then.expected ∙ first.expected;
  leaving = then.leaving ∙ first.leaving;
  bell = refl;
}

-- ---- counts

paused-all : (turns : ℕ) → turns ≤ last_number → paused turns 0 ≡ turns
paused-all zero few = refl
paused-all (suc turns) few = let before : paused turns 0 ≡ turns = paused-all turns (omega arith) in ap one_pause_more before ∙ omega arith

few-deeds : (entries : List Entry) → length (deeds entries) ≤ length entries
few-deeds [] = omega arith
few-deeds (Did session command moment answer ∷ entries) = let rest = few-deeds entries in omega arith
few-deeds (Broke session commands others ∷ entries) = let rest = few-deeds entries in omega arith

few-kept : {X : Type 0} (test : X → Bool) (xs : List X) → length (filter test xs) ≤ length xs
few-kept test [] = omega arith
few-kept test (x ∷ xs) = few-step (test x) x (filter test xs) (length xs) (few-kept test xs)
  where
    few-step : {X : Type 0} (b : Bool) (x : X) (ys : List X) (n : ℕ) → length ys ≤ n → length (cond b (x ∷ ys) ys) ≤ suc n
    few-step true x ys n few = omega arith
    few-step false x ys n few = omega arith

pub paused-counted : (test : Entry → Bool) (entries : List Entry) (pauses : ℕ) → length entries < last_number → pauses ≤ length (only test entries) → paused pauses 0 ≡ pauses
paused-counted test entries pauses few within =
    let kept = few-kept test (deeds entries) in
    let done = few-deeds entries in
    paused-all pauses (omega arith)
