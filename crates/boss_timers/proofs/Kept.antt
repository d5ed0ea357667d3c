-- Timers as they are kept: one gets another moment, one comes, one goes.
use Rattle.std.proofs.Common.{◌≡◌, ℕ, zero, suc, ◌+◌, ◌^◌, ◌<◌, ◌≤◌, List, [], ◌∷◌, ◌++◌, length, set, get_or, replicate, Option, Some, None, is_some, cond, count_by, refl, sym, ap, ◌∙◌, arith}
use Rattle.std.proofs.lemmas.List.{length-set, length-map, length-replicate, length_push}
use Rattle.std.proofs.lemmas.List.Sums.{sum_by-cons}
use Rattle.boss_timers.specs.declared.entry.Entry.{Entry}
use Rattle.boss_timers.specs.Heap.{IsHeap, IsIndexed, IsRising, entry_at, moment_at, place_of, times, weight, weight_at}
use Rattle.boss_timers.specs.Timers.{IsFirst, IsKept}
use Rattle.boss_timers.proofs.Heaps.{rising-from_heap, root-least}
use Rattle.boss_timers.proofs.Indexed.{IsIndexed-changed, IsIndexed-pushed, count-again, count-cleared, count-set, fewer-set, pushed-before, times-at, times-pushed, times-set, within-from_place, within-indexed}

-- the slot of an entry has its moment
times-there : (entries : List Entry) (places : List (Option ℕ)) (place : ℕ) → place < length entries → IsIndexed entries places → get_or (times entries places) (entry_at entries place).slot None ≡ Some (entry_at entries place).moment
times-there entries places place within indexed = times-at entries places (entry_at entries place).slot ∙ ap (moment_at entries) (indexed.leads place within)

slot-within : (entries : List Entry) (places : List (Option ℕ)) (place : ℕ) → place < length entries → IsIndexed entries places → (entry_at entries place).slot < length places
slot-within entries places place within indexed = within-from_place places _ place (indexed.leads place within)

pub slots-of-times : (entries : List Entry) (places : List (Option ℕ)) → length (times entries places) ≡ length places
slots-of-times entries places = length-map places (moment_at entries)

-- ---- a timer gets another moment

module _ (entries : List Entry) (places : List (Option ℕ)) (most place : ℕ) (entry : Entry) (kept : IsKept entries places most) (leads : place_of places entry.slot ≡ Some place) where
  pub place-within : place < length entries
  place-within = within-indexed entries places place entry kept.indexed leads

  there-before : get_or (times entries places) entry.slot None ≡ Some (entry_at entries place).moment
  there-before = times-at entries places entry.slot ∙ ap (moment_at entries) leads

  slot-there : entry.slot < length (times entries places)
  slot-there = omega (arith, within-from_place places entry.slot place leads, slots-of-times entries places)

  module _ (es : List Entry) (ps : List (Option ℕ)) (is-es : es ≡ set entries place entry) (is-ps : ps ≡ places) where
    pub indexed-change : IsIndexed es ps
    indexed-change = rw (is-es, is-ps) (IsIndexed-changed entries places place entry kept.indexed leads)

    module _ (es' : List Entry) (ps' : List (Option ℕ)) (as-many : length es' ≡ length es) (as-many-slots : length ps' ≡ length ps) (same : times es' ps' ≡ times es ps) where
      pub times-change : times es' ps' ≡ set (times entries places) entry.slot (Some entry.moment)
      times-change = same ∙ rw (is-es, is-ps) (times-set entries places place entry kept.indexed leads)

      pub IsKept-change : IsHeap (length es') (weight_at es') → IsIndexed es' ps' → IsKept es' ps' most
      IsKept-change heap indexed = record {
        heap = heap;
        indexed = indexed;
        counted = ap (count_by is_some) times-change ∙ count-again (times entries places) entry.slot entry.moment _ slot-there there-before ∙ kept.counted ∙ sym (as-many ∙ ap length is-es ∙ length-set entries place entry);
        room = omega (arith, kept.room, as-many-slots, ap length is-ps);
        few = omega (arith, kept.few, as-many-slots, ap length is-ps);
      }

-- ---- a slot gets a timer that had none

module _ (entries : List Entry) (places : List (Option ℕ)) (most : ℕ) (entry : Entry) (kept : IsKept entries places most) (within : entry.slot < length places) (nowhere : place_of places entry.slot ≡ None) where
  none-before : get_or (times entries places) entry.slot None ≡ None
  none-before = times-at entries places entry.slot ∙ ap (moment_at entries) nowhere

  slot-is-one : entry.slot < length (times entries places)
  slot-is-one = omega (arith, within, slots-of-times entries places)

  pub entries-fewer : length entries < length places
  entries-fewer = omega (arith, fewer-set (times entries places) entry.slot slot-is-one none-before, kept.counted, slots-of-times entries places)

  module _ (es : List Entry) (ps : List (Option ℕ)) (is-es : es ≡ entries ++ entry ∷ []) (is-ps : ps ≡ set places entry.slot (Some (length entries))) where
    pub indexed-insert : IsIndexed es ps
    indexed-insert = rw (is-es, is-ps) (IsIndexed-pushed entries places entry kept.indexed within nowhere (omega (arith, entries-fewer, kept.few)))

    one-more : length es ≡ length entries + 1
    one-more = ap length is-es ∙ length_push entries entry

    weights-before : (k : ℕ) → k < length entries → weight_at es k ≡ weight_at entries k
    weights-before k before = rw is-es (ap weight (pushed-before entries places entry kept.indexed within nowhere k before))

    pub rising-insert : IsRising (length es) (weight_at es) (length entries)
    rising-insert = rw one-more (rising-from_heap (length entries) (weight_at entries) (weight_at es) weights-before kept.heap)

    module _ (es' : List Entry) (ps' : List (Option ℕ)) (as-many : length es' ≡ length es) (as-many-slots : length ps' ≡ length ps) (same : times es' ps' ≡ times es ps) where
      pub times-insert : times es' ps' ≡ set (times entries places) entry.slot (Some entry.moment)
      times-insert = same ∙ rw (is-es, is-ps) (times-pushed entries places entry kept.indexed within nowhere)

      pub IsKept-insert : IsHeap (length es') (weight_at es') → IsIndexed es' ps' → IsKept es' ps' most
      IsKept-insert heap indexed = record {
        heap = heap;
        indexed = indexed;
        counted = omega (arith, ap (count_by is_some) times-insert, count-set (times entries places) entry.slot entry.moment slot-is-one none-before, kept.counted, as-many, one-more);
        room = omega (arith, kept.room, as-many-slots, ap length is-ps, length-set places entry.slot (Some (length entries)));
        few = omega (arith, kept.few, as-many-slots, ap length is-ps, length-set places entry.slot (Some (length entries)));
      }

-- ---- a timer goes

-- as many slots as before
pub slots-same : (es entries : List Entry) (ps places : List (Option ℕ)) (slot : ℕ) (moment : Option ℕ) → times es ps ≡ set (times entries places) slot moment → length ps ≡ length places
slots-same es entries ps places slot moment changed =
    sym (slots-of-times es ps) ∙ ap length changed ∙ length-set (times entries places) slot moment ∙ slots-of-times entries places

module _ (entries : List Entry) (places : List (Option ℕ)) (most place : ℕ) (kept : IsKept entries places most) (within : place < length entries) (es : List Entry) (one-less : length es + 1 ≡ length entries) where
  pub IsKept-without : (es' : List Entry) (ps' : List (Option ℕ)) → length es' ≡ length es → times es' ps' ≡ set (times entries places) (entry_at entries place).slot None → IsHeap (length es') (weight_at es') → IsIndexed es' ps' → IsKept es' ps' most
  IsKept-without es' ps' as-many removed heap indexed =
      let slots = slots-same es' entries ps' places _ None removed in
      record {
        heap = heap;
        indexed = indexed;
        counted = omega (arith, ap (count_by is_some) removed, count-cleared (times entries places) (entry_at entries place).slot _ (omega (arith, slot-within entries places place within kept.indexed, slots-of-times entries places)) (times-there entries places place within kept.indexed), kept.counted, one-less, as-many);
        room = omega (arith, kept.room, slots);
        few = omega (arith, kept.few, slots);
      }

-- ---- the first

pub IsFirst-top : (entries : List Entry) (places : List (Option ℕ)) (most : ℕ) (entry : Entry) → IsKept entries places most → 0 < length entries → entry ≡ entry_at entries 0 → IsFirst (times entries places) entry.slot entry.moment
IsFirst-top entries places most entry kept some is = rw is (record {
  is = times-there entries places 0 some kept.indexed;
  earliest = λ other at there. later other at (place_of places other) refl there;
  least = λ other there. lower other (place_of places other) refl there;
})
  where
    slots : (k : ℕ) → k < length entries → (entry_at entries k).slot < 4294967296
    slots k within = omega (arith, slot-within entries places k within kept.indexed, kept.few)

    later : (other at : ℕ) (place : Option ℕ) → place_of places other ≡ place → get_or (times entries places) other None ≡ Some at → (entry_at entries 0).moment ≤ at
    later other at None leads there = absurd (let none = sym (times-at entries places other ∙ ap (moment_at entries) leads) ∙ there in cc)
    later other at (Some k) leads there =
        let found : Some (entry_at entries k).moment ≡ Some at = sym (times-at entries places other ∙ ap (moment_at entries) leads) ∙ there in
        let same : (entry_at entries k).moment ≡ at = cc in
        let within = (kept.indexed.back other k leads).0 in
        omega (arith, root-least (length entries) (weight_at entries) kept.heap k within, slots k within, slots 0 some)

    lower : (other : ℕ) (place : Option ℕ) → place_of places other ≡ place → get_or (times entries places) other None ≡ Some (entry_at entries 0).moment → (entry_at entries 0).slot ≤ other
    lower other None leads there = absurd (let none = sym (times-at entries places other ∙ ap (moment_at entries) leads) ∙ there in cc)
    lower other (Some k) leads there =
        let found : Some (entry_at entries k).moment ≡ Some (entry_at entries 0).moment = sym (times-at entries places other ∙ ap (moment_at entries) leads) ∙ there in
        let same : (entry_at entries k).moment ≡ (entry_at entries 0).moment = cc in
        let back = kept.indexed.back other k leads in
        omega (arith, root-least (length entries) (weight_at entries) kept.heap k back.0, back.1)

-- ---- at first

pub times-none : (n : ℕ) (entries : List Entry) → times entries (replicate n None) ≡ replicate n None
times-none zero entries = refl
times-none (suc n) entries = ap (λ slots. None ∷ slots) (times-none n entries)

none-some : (n : ℕ) → count_by is_some (replicate {A = Option ℕ} n None) ≡ 0
none-some zero = refl
none-some (suc n) = omega (arith, none-some n, sum_by-cons (λ (slot : Option ℕ). cond (is_some slot) 1 0) None (replicate n None))

nowhere-none : (n slot : ℕ) → place_of (replicate n None) slot ≡ None
nowhere-none zero slot = refl
nowhere-none (suc n) zero = refl
nowhere-none (suc n) (suc slot) = nowhere-none n slot

pub IsKept-none : (n most : ℕ) → n ≤ most → n < 2 ^ 32 → IsKept [] (replicate n None) most
IsKept-none n most room few = record {
  heap = record { ordered = λ above below lo hi inside. absurd (omega arith) };
  indexed = record {
    leads = λ place within. absurd (omega arith);
    back = λ slot place leads. absurd (let none = nowhere-none n slot in cc);
    few = omega arith;
  };
  counted = ap (count_by is_some) (times-none n []) ∙ none-some n;
  room = omega (arith, length-replicate {A = Option ℕ} n None, room);
  few = omega (arith, length-replicate {A = Option ℕ} n None, few);
}
