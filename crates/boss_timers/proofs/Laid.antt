-- Timers whose moments and slots stand in two lists.
use Rattle.std.proofs.Common.{◌≡◌, ◌≢◌, ℕ, zero, suc, ◌+◌, ◌^◌, ◌<◌, ◌≤◌, List, [], ◌∷◌, ◌++◌, length, take, set, get_or, Option, Some, None, is_some, refl, sym, ap, ◌∙◌, arith}
use Rattle.std.proofs.Math.Seq.{take-set-lt}
use Rattle.std.proofs.lemmas.List.{get_or-set_same, get_or-set_other, get_or-take, length-set, length_push, set-get_or, set-set, set_comm, take-set-le}
use Rattle.std.proofs.lemmas.List.Sums.{count_by-le-length}
use Rattle.boss_timers.specs.declared.entry.Entry.{Entry}
use Rattle.boss_timers.specs.Heap.{IsHeap, IsHole, IsIndexed, IsRising, entries_of, entry_at, place_of, times, weight, weight_at}
use Rattle.boss_timers.specs.Timers.{IsLaid}
use Rattle.boss_timers.proofs.Heaps.{heap-fewer, hole-from_heap}
use Rattle.boss_timers.proofs.Indexed.{IsIndexed-both, IsIndexed-taken, times-both, times-taken, within-from_place}
use Rattle.boss_timers.proofs.Kept.{IsKept-change, IsKept-insert, IsKept-without, entries-fewer, indexed-insert, place-within, rising-insert, slots-of-times, slots-same, times-change, times-insert}

pub length-entries : (moments slots : List ℕ) → length slots ≡ length moments → length (entries_of moments slots) ≡ length moments
length-entries [] slots same = refl
length-entries (moment ∷ moments) [] same = absurd (omega (arith, same))
length-entries (moment ∷ moments) (slot ∷ slots) same = omega (arith, length-entries moments slots (omega (arith, same)))

pub entry-read : (moments slots : List ℕ) (place : ℕ) → length slots ≡ length moments → entry_at (entries_of moments slots) place ≡ record { moment = get_or moments place 0; slot = get_or slots place 0 }
entry-read [] [] place same = refl
entry-read [] (slot ∷ slots) place same = absurd (omega (arith, same))
entry-read (moment ∷ moments) [] place same = absurd (omega (arith, same))
entry-read (moment ∷ moments) (slot ∷ slots) zero same = refl
entry-read (moment ∷ moments) (slot ∷ slots) (suc place) same = entry-read moments slots place (omega (arith, same))

pub entries-set : (moments slots : List ℕ) (place : ℕ) (entry : Entry) → entries_of (set moments place entry.moment) (set slots place entry.slot) ≡ set (entries_of moments slots) place entry
entries-set [] slots place entry = refl
entries-set (moment ∷ moments) [] zero entry = refl
entries-set (moment ∷ moments) [] (suc place) entry = refl
entries-set (moment ∷ moments) (slot ∷ slots) zero entry = refl
entries-set (moment ∷ moments) (slot ∷ slots) (suc place) entry = ap (λ entries. record { moment = moment; slot = slot } ∷ entries) (entries-set moments slots place entry)

pub entries-pushed : (moments slots : List ℕ) (entry : Entry) → length slots ≡ length moments → entries_of (moments ++ entry.moment ∷ []) (slots ++ entry.slot ∷ []) ≡ entries_of moments slots ++ entry ∷ []
entries-pushed [] [] entry same = refl
entries-pushed [] (slot ∷ slots) entry same = absurd (omega (arith, same))
entries-pushed (moment ∷ moments) [] entry same = absurd (omega (arith, same))
entries-pushed (moment ∷ moments) (slot ∷ slots) entry same = ap (λ entries. record { moment = moment; slot = slot } ∷ entries) (entries-pushed moments slots entry (omega (arith, same)))

pub entries-taken : (n : ℕ) (moments slots : List ℕ) → entries_of (take n moments) (take n slots) ≡ take n (entries_of moments slots)
entries-taken zero moments slots = refl
entries-taken (suc n) [] slots = refl
entries-taken (suc n) (moment ∷ moments) [] = refl
entries-taken (suc n) (moment ∷ moments) (slot ∷ slots) = ap (λ entries. record { moment = moment; slot = slot } ∷ entries) (entries-taken n moments slots)

-- ---- where a timer is read

module _ (moments slots : List ℕ) (places : List (Option ℕ)) (pairs : length slots ≡ length moments) (indexed : IsIndexed (entries_of moments slots) places) (place : ℕ) (within : place < length moments) where
  pub place-there : place < length (entries_of moments slots)
  place-there = omega (arith, within, length-entries moments slots pairs)

  pub slot-fits : (entry_at (entries_of moments slots) place).slot < length places
  slot-fits = within-from_place places _ place (indexed.leads place place-there)

  pub place-few : place + 1 < 2 ^ 32
  place-few = omega (arith, place-there, indexed.few)

-- ---- a timer that is held out where it stands

module _ (entries : List Entry) (places : List (Option ℕ)) (at : ℕ) (entry : Entry) (is : entry ≡ entry_at entries at) (inside : at < length entries) (indexed : IsIndexed entries places) where
  entries-held : set entries at entry ≡ entries
  entries-held = ap (set entries at) is ∙ set-get_or entries at _

  places-held : set places entry.slot (Some at) ≡ places
  places-held = ap (λ (e : Entry). set places e.slot (Some at)) is ∙ ap (set places (entry_at entries at).slot) (sym (indexed.leads at inside)) ∙ set-get_or places (entry_at entries at).slot None

  pub IsIndexed-held : IsIndexed (set entries at entry) (set places entry.slot (Some at))
  IsIndexed-held = rw (entries-held, places-held) indexed

  pub times-held : times (set entries at entry) (set places entry.slot (Some at)) ≡ times entries places
  times-held = rw (entries-held, places-held) refl

-- ---- as they are kept

module _ (moments slots : List ℕ) (places : List (Option ℕ)) (most more : ℕ) (laid : IsLaid moments slots places most more) where
  pub entries-many : length (entries_of moments slots) ≡ length moments
  entries-many = length-entries moments slots laid.pairs

  -- no more timers than slots
  pub timers-fewer : length moments ≤ length places
  timers-fewer = omega (arith, entries-many, laid.kept.counted, count_by-le-length is_some (times (entries_of moments slots) places), slots-of-times (entries_of moments slots) places)

  -- a timer gets another moment
  module _ (place : ℕ) (entry : Entry) (leads : place_of places entry.slot ≡ Some place) where
    pub inside-changed : place < length moments
    inside-changed = omega (arith, entries-many, place-within (entries_of moments slots) places most place entry laid.kept leads)

    slot-read : entry.slot ≡ get_or slots place 0
    slot-read = sym (laid.kept.indexed.back entry.slot place leads).1 ∙ ap (λ (e : Entry). e.slot) (entry-read moments slots place laid.pairs)

    slots-changed : set slots place entry.slot ≡ slots
    slots-changed = ap (set slots place) slot-read ∙ set-get_or slots place 0

    pub is-changed : entries_of (set moments place entry.moment) slots ≡ set (entries_of moments slots) place entry
    is-changed = ap (entries_of (set moments place entry.moment)) (sym slots-changed) ∙ entries-set moments slots place entry

    pub hole-changed : IsHole (length (set moments place entry.moment)) (weight_at (entries_of (set moments place entry.moment) slots)) place
    hole-changed =
        hole-from_heap (length (entries_of moments slots)) _ (weight_at (entries_of moments slots)) _ place (omega (arith, entries-many, length-set moments place entry.moment))
        (λ k before differs. rw is-changed (ap weight (get_or-set_other (entries_of moments slots) place k entry _ differs)))
        (omega (arith, inside-changed, length-set moments place entry.moment)) laid.kept.heap

    module _ (ms ss : List ℕ) (ps : List (Option ℕ)) (as-many : length ms ≡ length (set moments place entry.moment)) (pairs : length ss ≡ length ms) (as-many-slots : length ps ≡ length places)
        (same : times (entries_of ms ss) ps ≡ times (entries_of (set moments place entry.moment) slots) places) where
      counted-changed : length (entries_of ms ss) ≡ length (entries_of (set moments place entry.moment) slots)
      counted-changed = omega (arith, length-entries ms ss pairs, as-many, length-set moments place entry.moment, length-entries (set moments place entry.moment) slots (omega (arith, laid.pairs, length-set moments place entry.moment)))

      pub times-changed : times (entries_of ms ss) ps ≡ set (times (entries_of moments slots) places) entry.slot (Some entry.moment)
      times-changed = times-change (entries_of moments slots) places most place entry laid.kept leads _ _ is-changed refl (entries_of ms ss) ps counted-changed as-many-slots same

      pub IsLaid-changed : IsHeap (length ms) (weight_at (entries_of ms ss)) → IsIndexed (entries_of ms ss) ps → IsLaid ms ss ps most more
      IsLaid-changed heap indexed = record {
        pairs = pairs;
        kept = IsKept-change (entries_of moments slots) places most place entry laid.kept leads _ _ is-changed refl (entries_of ms ss) ps counted-changed as-many-slots same (rw (length-entries ms ss pairs) heap) indexed;
        room = omega (arith, laid.room, as-many-slots);
      }

  -- a slot gets a timer that had none
  module _ (entry : Entry) (within : entry.slot < length places) (nowhere : place_of places entry.slot ≡ None) where
    pub fewer-inserted : length moments < length places
    fewer-inserted = omega (arith, entries-many, entries-fewer (entries_of moments slots) places most entry laid.kept within nowhere)

    is-inserted : entries_of (moments ++ entry.moment ∷ []) (slots ++ entry.slot ∷ []) ≡ entries_of moments slots ++ entry ∷ []
    is-inserted = entries-pushed moments slots entry laid.pairs

    led-inserted : set places entry.slot (Some (length moments)) ≡ set places entry.slot (Some (length (entries_of moments slots)))
    led-inserted = ap (λ n. set places entry.slot (Some n)) (sym entries-many)

    pub indexed-inserted : IsIndexed (entries_of (moments ++ entry.moment ∷ []) (slots ++ entry.slot ∷ [])) (set places entry.slot (Some (length moments)))
    indexed-inserted = indexed-insert (entries_of moments slots) places most entry laid.kept within nowhere _ _ is-inserted led-inserted

    pairs-inserted : length (slots ++ entry.slot ∷ []) ≡ length (moments ++ entry.moment ∷ [])
    pairs-inserted = omega (arith, laid.pairs, length_push slots entry.slot, length_push moments entry.moment)

    many-inserted : length (entries_of (moments ++ entry.moment ∷ []) (slots ++ entry.slot ∷ [])) ≡ length (moments ++ entry.moment ∷ [])
    many-inserted = length-entries (moments ++ entry.moment ∷ []) (slots ++ entry.slot ∷ []) pairs-inserted

    pub rising-inserted : IsRising (length (moments ++ entry.moment ∷ [])) (weight_at (entries_of (moments ++ entry.moment ∷ []) (slots ++ entry.slot ∷ []))) (length moments)
    rising-inserted =
        rw (many-inserted, entries-many) at
        (rising-insert (entries_of moments slots) places most entry laid.kept within nowhere (entries_of (moments ++ entry.moment ∷ []) (slots ++ entry.slot ∷ [])) _ is-inserted led-inserted)

    module _ (ms ss : List ℕ) (ps : List (Option ℕ)) (as-many : length ms ≡ length (moments ++ entry.moment ∷ [])) (pairs : length ss ≡ length ms) (as-many-slots : length ps ≡ length (set places entry.slot (Some (length moments))))
        (same : times (entries_of ms ss) ps ≡ times (entries_of (moments ++ entry.moment ∷ []) (slots ++ entry.slot ∷ [])) (set places entry.slot (Some (length moments)))) where
      counted-inserted : length (entries_of ms ss) ≡ length (entries_of (moments ++ entry.moment ∷ []) (slots ++ entry.slot ∷ []))
      counted-inserted = omega (arith, length-entries ms ss pairs, as-many, many-inserted)

      pub times-inserted : times (entries_of ms ss) ps ≡ set (times (entries_of moments slots) places) entry.slot (Some entry.moment)
      times-inserted = times-insert (entries_of moments slots) places most entry laid.kept within nowhere _ _ is-inserted led-inserted (entries_of ms ss) ps counted-inserted as-many-slots same

      pub IsLaid-inserted : IsHeap (length ms) (weight_at (entries_of ms ss)) → IsIndexed (entries_of ms ss) ps → IsLaid ms ss ps most more
      IsLaid-inserted heap indexed = record {
        pairs = pairs;
        kept = IsKept-insert (entries_of moments slots) places most entry laid.kept within nowhere _ _ is-inserted led-inserted (entries_of ms ss) ps counted-inserted as-many-slots same (rw (length-entries ms ss pairs) heap) indexed;
        room = omega (arith, laid.room, as-many-slots, length-set places entry.slot (Some (length moments)));
      }

  -- a timer goes, and the others stand where they stood
  module _ (place : ℕ) (within : place < length moments) (ms ss : List ℕ) (fewer : length ms + 1 ≡ length moments) (pairs : length ss ≡ length ms)
      (others : (other : ℕ) → other < length ms → other ≢ place → entry_at (entries_of ms ss) other ≡ entry_at (entries_of moments slots) other) where
    pub hole-removed : place < length ms → IsHole (length ms) (weight_at (entries_of ms ss)) place
    hole-removed inside = hole-from_heap (length (entries_of moments slots)) _ (weight_at (entries_of moments slots)) _ place (omega (arith, fewer, entries-many)) (λ k before differs. ap weight (others k before differs)) inside laid.kept.heap

    pub heap-removed : length ms ≤ place → IsHeap (length ms) (weight_at (entries_of ms ss))
    heap-removed outside = heap-fewer (length (entries_of moments slots)) (length ms) (weight_at (entries_of moments slots)) _ (omega (arith, fewer, entries-many)) (λ k before. ap weight (others k before (omega (arith, before, outside)))) laid.kept.heap

    module _ (ms' ss' : List ℕ) (ps : List (Option ℕ)) (as-many : length ms' ≡ length ms) (pairs' : length ss' ≡ length ms')
        (removed : times (entries_of ms' ss') ps ≡ set (times (entries_of moments slots) places) (entry_at (entries_of moments slots) place).slot None) where
      pub IsLaid-removed : IsHeap (length ms') (weight_at (entries_of ms' ss')) → IsIndexed (entries_of ms' ss') ps → IsLaid ms' ss' ps most more
      IsLaid-removed heap indexed = record {
        pairs = pairs';
        kept = IsKept-without (entries_of moments slots) places most place laid.kept (omega (arith, within, entries-many)) (entries_of ms ss) (omega (arith, fewer, entries-many, length-entries ms ss pairs)) (entries_of ms' ss') ps
            (omega (arith, as-many, length-entries ms ss pairs, length-entries ms' ss' pairs')) removed (rw (length-entries ms' ss' pairs') heap) indexed;
        room = omega (arith, laid.room, slots-same (entries_of ms' ss') (entries_of moments slots) ps places _ None removed);
      }

-- ---- a timer goes, and the last one takes its place

module _ (entries : List Entry) (places : List (Option ℕ)) (place last : ℕ) (is-last : last + 1 ≡ length entries) (before : place < last) (indexed : IsIndexed entries places) where
  abbrev held : Entry
  held = entry_at entries last

  abbrev gone : ℕ
  gone = (entry_at entries place).slot

  -- as if the two had changed their places before
  abbrev both : List Entry
  both = set (set entries place held) last (entry_at entries place)

  abbrev both-places : List (Option ℕ)
  both-places = set (set places held.slot (Some place)) gone (Some last)

  inside : last < length entries
  inside = omega (arith, is-last)

  apart : held.slot ≢ gone
  apart same =
      let there = indexed.leads last inside in
      let here = indexed.leads place (omega (arith, is-last, before)) in
      let led : Some last ≡ Some place = sym there ∙ ap (place_of places) same ∙ here in
      let is : last ≡ place = cc in
      omega (arith, before)

  entries-left : set (take last entries) place held ≡ take last both
  entries-left = sym (take-set-le last (set entries place held) last (entry_at entries place) (omega arith) ∙ take-set-lt last entries place held before)

  places-left : set (set places gone None) held.slot (Some place) ≡ set both-places gone None
  places-left = sym (set-set (set places held.slot (Some place)) gone (Some last) None ∙ set_comm places held.slot gone (Some place) None apart)

  both-last : last + 1 ≡ length both
  both-last = omega (arith, is-last, length-set (set entries place held) last (entry_at entries place), length-set entries place held)

  both-slot : gone ≡ (entry_at both last).slot
  both-slot = sym (ap (λ (e : Entry). e.slot) (get_or-set_same (set entries place held) last (entry_at entries place) _ (omega (arith, inside, length-set entries place held))))

  both-indexed : IsIndexed both both-places
  both-indexed = IsIndexed-both entries places place last before inside indexed both both-places refl refl

  pub IsIndexed-moved : IsIndexed (set (take last entries) place held) (set (set places gone None) held.slot (Some place))
  IsIndexed-moved = rw (entries-left, places-left) (IsIndexed-taken both both-places last gone both-last both-slot both-indexed)

  pub times-moved : times (set (take last entries) place held) (set (set places gone None) held.slot (Some place)) ≡ set (times entries places) gone None
  times-moved =
      rw (entries-left, places-left)
      (times-taken both both-places last gone both-last both-slot both-indexed
      ∙ ap (λ ts. set ts gone None) (times-both entries places place last before inside indexed both both-places refl refl))

  pub others-moved : (other : ℕ) → other < last → other ≢ place → entry_at (set (take last entries) place held) other ≡ entry_at entries other
  others-moved other within differs = get_or-set_other (take last entries) place other held _ differs ∙ get_or-take last entries other _ within
