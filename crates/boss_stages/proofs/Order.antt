-- Entries in order of number: where one of them stands, what is kept, and what stays in order.
use Rattle.std.proofs.Common.{◌≡◌, ◌≢◌, ℕ, zero, suc, ◌+◌, ◌-◌, ◌<◌, ◌≤◌, ◌==◌, not, Bool, true, false, List, [], ◌∷◌, ◌++◌, length, take, drop, set, get_or, Some, None, Result, Ok, Err, refl, sym, ◌∙◌, ap, ⊎_elim, arith}
use Rattle.std.specs.Prelude.{All, filter, if◌then◌else◌}
use Rattle.std.specs.List.{list_any, position_from}
use Rattle.std.specs.List.Sorted.{IsSearchInRange, IsBinarySearchResult, IsNonDecreasingBy}
use Rattle.std.specs.Ordering.{nat_cmp, ordering_index}
use Rattle.std.specs.Result.{result_ok}
use Rattle.std.proofs.lemmas.Bool.{cases_Bool, cases_lt, eqb-true}
use Rattle.std.proofs.lemmas.Bool.Decides.{nat_tests}
use Rattle.std.proofs.lemmas.Cmp.{ranked}
use Rattle.std.proofs.lemmas.Grind.{common_steps}
use Rattle.std.proofs.lemmas.List.{get_or_default, get_or-set_same, get_or-set_other, length-set, length-map, take_more}
use Rattle.std.proofs.lemmas.List.Elements.{All-cons, All-nil}
use Rattle.boss_stages.specs.declared.entry.Entry.{Entry}
use Rattle.boss_stages.specs.declared.entry.Entry.TheVariants.{Kept, Forgotten}
use Rattle.boss_stages.specs.Entries.{entry_number, entry_kept, entry_with, is_kept, all_kept, AllAbove, Rising}
use Rattle.boss_stages.specs.Stages.{Tracked, number, kept_as, changed, without, is_over}
use Rattle.boss_stages.proofs.Places.{IsFirst, AllFail, IsFirst-tail, AllFail-tail, position-IsFirst, position-AllFail, IsFirst-position, AllFail-position}

-- the entry has this number
abbrev pub is_of : ℕ → Entry → Bool
is_of txn entry = entry_number entry == txn

-- ---- what stays in order

AllAbove-push : (txn : ℕ) (entries : List Entry) (entry : Entry) → AllAbove txn entries → txn < entry_number entry → AllAbove txn (entries ++ entry ∷ [])
AllAbove-push txn [] entry above more = (more, tt)
AllAbove-push txn (first ∷ entries) entry above more = (above.0, AllAbove-push txn entries entry above.1 more)

pub Rising-push : (entries : List Entry) (entry : Entry) → Rising entries → All (λ other. entry_number other < entry_number entry) entries → Rising (entries ++ entry ∷ [])
Rising-push [] entry rising below = (tt, tt)
Rising-push (first ∷ entries) entry rising below =
    (AllAbove-push (entry_number first) entries entry rising.0 (below 0 first (omega arith)), Rising-push entries entry rising.1 (λ place d within. below (suc place) d (omega arith)))

AllAbove-set : (txn : ℕ) (entries : List Entry) (place : ℕ) (new d : Entry) → AllAbove txn entries → entry_number new ≡ entry_number (get_or entries place d) → AllAbove txn (set entries place new)
AllAbove-set txn [] place new d above same = tt
AllAbove-set txn (entry ∷ entries) zero new d above same = (omega (arith, above.0, same), above.1)
AllAbove-set txn (entry ∷ entries) (suc place) new d above same = (above.0, AllAbove-set txn entries place new d above.1 same)

pub Rising-set : (entries : List Entry) (place : ℕ) (new d : Entry) → Rising entries → entry_number new ≡ entry_number (get_or entries place d) → Rising (set entries place new)
Rising-set [] place new d rising same = tt
Rising-set (entry ∷ entries) zero new d rising same = (rw same rising.0, rising.1)
Rising-set (entry ∷ entries) (suc place) new d rising same = (AllAbove-set (entry_number entry) entries place new d rising.0 same, Rising-set entries place new d rising.1 same)

-- ---- only those that are kept

AllAbove-filter : (txn : ℕ) (entries : List Entry) → AllAbove txn entries → AllAbove txn (filter is_kept entries)
AllAbove-filter txn [] above = tt
AllAbove-filter txn (Kept kept ∷ entries) above = (above.0, AllAbove-filter txn entries above.1)
AllAbove-filter txn (Forgotten gone ∷ entries) above = AllAbove-filter txn entries above.1

pub Rising-filter : (entries : List Entry) → Rising entries → Rising (filter is_kept entries)
Rising-filter [] rising = tt
Rising-filter (Kept kept ∷ entries) rising = (AllAbove-filter (number kept) entries rising.0, Rising-filter entries rising.1)
Rising-filter (Forgotten gone ∷ entries) rising = Rising-filter entries rising.1

pub all_kept-filter : (entries : List Entry) → all_kept (filter is_kept entries) ≡ all_kept entries
all_kept-filter [] = refl
all_kept-filter (Kept kept ∷ entries) = ap (λ rest. kept ∷ rest) (all_kept-filter entries)
all_kept-filter (Forgotten gone ∷ entries) = all_kept-filter entries

pub length-filter : (entries : List Entry) → length (filter is_kept entries) ≡ length (all_kept entries)
length-filter [] = refl
length-filter (Kept kept ∷ entries) = omega (arith, length-filter entries)
length-filter (Forgotten gone ∷ entries) = length-filter entries

pub few-kept : (entries : List Entry) → length (all_kept entries) ≤ length entries
few-kept [] = omega arith
few-kept (Kept kept ∷ entries) = omega (arith, few-kept entries)
few-kept (Forgotten gone ∷ entries) = omega (arith, few-kept entries)

pub below-filter : (limit : ℕ) (entries : List Entry) → All (λ kept. number kept < limit) (all_kept entries) → All (λ entry. entry_number entry < limit) (filter is_kept entries)
below-filter limit [] below = All-nil (λ entry. entry_number entry < limit)
below-filter limit (Kept kept ∷ entries) below =
    All-cons (λ entry. entry_number entry < limit) (Kept kept) (filter is_kept entries) (below 0 kept (omega arith)) (below-filter limit entries (λ place d within. below (suc place) d (omega arith)))
below-filter limit (Forgotten gone ∷ entries) below = below-filter limit entries below

pub all_kept-append : (entries more : List Entry) → all_kept (entries ++ more) ≡ all_kept entries ++ all_kept more
all_kept-append [] more = refl
all_kept-append (Kept first ∷ entries) more = ap (λ rest. first ∷ rest) (all_kept-append entries more)
all_kept-append (Forgotten gone ∷ entries) more = all_kept-append entries more

-- one entry more
pub all_kept-more : (entries : List Entry) (place : ℕ) (entry : Entry) → place < length entries → entry ≡ get_or entries place entry → all_kept (take (place + 1) entries) ≡ all_kept (take place entries) ++ all_kept (entry ∷ [])
all_kept-more entries place entry within read =
    ap all_kept (take_more entries place entry within) ∙ (all_kept-append (take place entries) (get_or entries place entry ∷ []) ∙ ap (λ it. all_kept (take place entries) ++ all_kept (it ∷ [])) (sym read))

-- ---- the entry of a number stands once

AllAbove-get : (txn : ℕ) (entries : List Entry) → AllAbove txn entries → (place : ℕ) (d : Entry) → place < length entries → txn < entry_number (get_or entries place d)
AllAbove-get txn [] above place d within = absurd (omega arith)
AllAbove-get txn (first ∷ entries) above zero d within = above.0
AllAbove-get txn (first ∷ entries) above (suc place) d within = AllAbove-get txn entries above.1 place d (omega arith)

pub Rising-less : (entries : List Entry) → Rising entries → (i j : ℕ) (d : Entry) → i < j → j < length entries → entry_number (get_or entries i d) < entry_number (get_or entries j d)
Rising-less [] rising i j d less within = absurd (omega arith)
Rising-less (first ∷ entries) rising i zero d less within = absurd (omega arith)
Rising-less (first ∷ entries) rising zero (suc j) d less within = AllAbove-get (entry_number first) entries rising.0 j d (omega arith)
Rising-less (first ∷ entries) rising (suc i) (suc j) d less within = Rising-less entries rising.1 i j d (omega arith) (omega arith)

-- where the last one is below a number, all are
pub below-last : (entries : List Entry) → Rising entries → (last : Entry) → last ≡ get_or entries (length entries - 1) last → (limit : ℕ) → entry_number last < limit → All (λ entry. entry_number entry < limit) entries
below-last entries rising last read limit less place d within =
    let final : entry_number (get_or entries (length entries - 1) d) ≡ entry_number last =
    ap entry_number (get_or_default entries (length entries - 1) d last (omega arith) ∙ sym read) in
    ⊎_elim
    (λ before. omega (arith, Rising-less entries rising place (length entries - 1) d before (omega arith), final, less))
    (λ behind.
    let here : place ≡ length entries - 1 = omega arith in
    rw (ap (λ at. entry_number (get_or entries at d)) here ∙ final) less)
    (cases_lt place (length entries - 1))

AllFail-above : (txn : ℕ) (entries : List Entry) → AllAbove txn entries → AllFail (is_of txn) entries
AllFail-above txn entries above place d within = grind (arith, common_steps, AllAbove-get txn entries above place d within)

own_number : (txn : ℕ) (entry : Entry) → is_of txn entry ≡ true → entry_number entry ≡ txn
own_number txn entry own = grind (arith, common_steps)

-- of those behind an entry of this number, none has it too
rest_fail : (txn : ℕ) (entry : Entry) (entries : List Entry) → is_of txn entry ≡ true → Rising (entry ∷ entries) → AllFail (is_of txn) entries
rest_fail txn entry entries own rising = AllFail-above txn entries (rw (← own_number txn entry own) rising.0)

-- ---- where no entry has the number

pub kept_as-AllFail : (txn : ℕ) (entries : List Entry) → AllFail (is_of txn) entries → kept_as txn (all_kept entries) ≡ None
kept_as-AllFail txn [] fail = refl
kept_as-AllFail txn (Kept kept ∷ entries) fail =
    let other : (number kept == txn) ≡ false = fail 0 (Kept kept) (omega arith) in
    rw other (kept_as-AllFail txn entries (AllFail-tail (is_of txn) (Kept kept) entries fail))
kept_as-AllFail txn (Forgotten gone ∷ entries) fail = kept_as-AllFail txn entries (AllFail-tail (is_of txn) (Forgotten gone) entries fail)

pub changed-AllFail : (txn : ℕ) (change : Tracked → Tracked) (entries : List Entry) → AllFail (is_of txn) entries → changed txn change (all_kept entries) ≡ all_kept entries
changed-AllFail txn change [] fail = refl
changed-AllFail txn change (Kept kept ∷ entries) fail =
    let other : (number kept == txn) ≡ false = fail 0 (Kept kept) (omega arith) in
    rw other (ap (λ rest. kept ∷ rest) (changed-AllFail txn change entries (AllFail-tail (is_of txn) (Kept kept) entries fail)))
changed-AllFail txn change (Forgotten gone ∷ entries) fail = changed-AllFail txn change entries (AllFail-tail (is_of txn) (Forgotten gone) entries fail)

goes : (txn : ℕ) (kept : Tracked) (own : Bool) → (number kept == txn) ≡ own → list_any (λ gone. gone == number kept) (txn ∷ []) ≡ own
goes txn kept own is = grind (arith, common_steps)

pub without-AllFail : (txn : ℕ) (entries : List Entry) → AllFail (is_of txn) entries → without (txn ∷ []) (all_kept entries) ≡ all_kept entries
without-AllFail txn [] fail = refl
without-AllFail txn (Kept kept ∷ entries) fail =
    let other : (number kept == txn) ≡ false = fail 0 (Kept kept) (omega arith) in
    rw (goes txn kept false other) (ap (λ rest. kept ∷ rest) (without-AllFail txn entries (AllFail-tail (is_of txn) (Kept kept) entries fail)))
without-AllFail txn (Forgotten gone ∷ entries) fail = without-AllFail txn entries (AllFail-tail (is_of txn) (Forgotten gone) entries fail)

-- ---- at the entry of the number

pub kept_as-IsFirst : (txn : ℕ) (entries : List Entry) (place : ℕ) (d : Entry) → Rising entries → IsFirst (is_of txn) entries place → kept_as txn (all_kept entries) ≡ entry_kept (get_or entries place d)
kept_as-IsFirst txn [] place d rising first = absurd (omega (arith, first.within))
kept_as-IsFirst txn (Kept kept ∷ entries) zero d rising first =
    let own : (number kept == txn) ≡ true = first.passes (Kept kept) in
    rw own refl
kept_as-IsFirst txn (Forgotten gone ∷ entries) zero d rising first =
    kept_as-AllFail txn entries (rest_fail txn (Forgotten gone) entries (first.passes (Forgotten gone)) rising)
kept_as-IsFirst txn (Kept kept ∷ entries) (suc place) d rising first =
    let other : (number kept == txn) ≡ false = first.before 0 (Kept kept) (omega arith) in
    rw other (kept_as-IsFirst txn entries place d rising.1 (IsFirst-tail (is_of txn) (Kept kept) entries place first))
kept_as-IsFirst txn (Forgotten gone ∷ entries) (suc place) d rising first =
    kept_as-IsFirst txn entries place d rising.1 (IsFirst-tail (is_of txn) (Forgotten gone) entries place first)

pub changed-IsFirst : (txn : ℕ) (change : Tracked → Tracked) (entries : List Entry) (place : ℕ) (d : Entry) → Rising entries → IsFirst (is_of txn) entries place
    → all_kept (set entries place (entry_with change (get_or entries place d))) ≡ changed txn change (all_kept entries)
changed-IsFirst txn change [] place d rising first = refl
changed-IsFirst txn change (Kept kept ∷ entries) zero d rising first =
    let own : (number kept == txn) ≡ true = first.passes (Kept kept) in
    rw own (ap (λ rest. change kept ∷ rest) (sym (changed-AllFail txn change entries (rest_fail txn (Kept kept) entries own rising))))
changed-IsFirst txn change (Forgotten gone ∷ entries) zero d rising first =
    sym (changed-AllFail txn change entries (rest_fail txn (Forgotten gone) entries (first.passes (Forgotten gone)) rising))
changed-IsFirst txn change (Kept kept ∷ entries) (suc place) d rising first =
    let other : (number kept == txn) ≡ false = first.before 0 (Kept kept) (omega arith) in
    rw other (ap (λ rest. kept ∷ rest) (changed-IsFirst txn change entries place d rising.1 (IsFirst-tail (is_of txn) (Kept kept) entries place first)))
changed-IsFirst txn change (Forgotten gone ∷ entries) (suc place) d rising first =
    changed-IsFirst txn change entries place d rising.1 (IsFirst-tail (is_of txn) (Forgotten gone) entries place first)

pub without-IsFirst : (txn : ℕ) (entries : List Entry) (place : ℕ) → Rising entries → IsFirst (is_of txn) entries place → all_kept (set entries place (Forgotten txn)) ≡ without (txn ∷ []) (all_kept entries)
without-IsFirst txn [] place rising first = refl
without-IsFirst txn (Kept kept ∷ entries) zero rising first =
    let own : (number kept == txn) ≡ true = first.passes (Kept kept) in
    rw (goes txn kept true own) (sym (without-AllFail txn entries (rest_fail txn (Kept kept) entries own rising)))
without-IsFirst txn (Forgotten gone ∷ entries) zero rising first =
    sym (without-AllFail txn entries (rest_fail txn (Forgotten gone) entries (first.passes (Forgotten gone)) rising))
without-IsFirst txn (Kept kept ∷ entries) (suc place) rising first =
    let other : (number kept == txn) ≡ false = first.before 0 (Kept kept) (omega arith) in
    rw (goes txn kept false other) (ap (λ rest. kept ∷ rest) (without-IsFirst txn entries place rising.1 (IsFirst-tail (is_of txn) (Kept kept) entries place first)))
without-IsFirst txn (Forgotten gone ∷ entries) (suc place) rising first =
    without-IsFirst txn entries place rising.1 (IsFirst-tail (is_of txn) (Forgotten gone) entries place first)

-- one fewer is kept where one that was kept is forgotten
pub fewer-forgotten : (txn : ℕ) (entries : List Entry) (place : ℕ) (d : Entry) → place < length entries → is_kept (get_or entries place d) ≡ true → length (all_kept entries) ≡ length (all_kept (set entries place (Forgotten txn))) + 1
fewer-forgotten txn [] place d within kept = absurd (omega arith)
fewer-forgotten txn (Kept first ∷ entries) zero d within kept = omega arith
fewer-forgotten txn (Forgotten gone ∷ entries) zero d within kept = absurd (cc)
fewer-forgotten txn (Kept first ∷ entries) (suc place) d within kept = omega (arith, fewer-forgotten txn entries place d (omega arith) kept)
fewer-forgotten txn (Forgotten gone ∷ entries) (suc place) d within kept = fewer-forgotten txn entries place d (omega arith) kept

-- one that was forgotten may be forgotten again
pub forgotten-still : (txn : ℕ) (entries : List Entry) (place : ℕ) (d : Entry) → is_kept (get_or entries place d) ≡ false → all_kept (set entries place (Forgotten txn)) ≡ all_kept entries
forgotten-still txn [] place d gone = refl
forgotten-still txn (Kept first ∷ entries) zero d gone = absurd (cc)
forgotten-still txn (Forgotten other ∷ entries) zero d gone = refl
forgotten-still txn (Kept first ∷ entries) (suc place) d gone = ap (λ rest. first ∷ rest) (forgotten-still txn entries place d gone)
forgotten-still txn (Forgotten other ∷ entries) (suc place) d gone = forgotten-still txn entries place d gone

-- without the first entry, whose transaction is forgotten
pub passed : (entries : List Entry) (d : Entry) → 0 < length entries → is_kept (get_or entries 0 d) ≡ false → Rising entries
    → Rising (drop 1 entries) × (all_kept (drop 1 entries) ≡ all_kept entries) × (length (drop 1 entries) + 1 ≡ length entries)
passed [] d within gone rising = absurd (omega arith)
passed (Kept first ∷ entries) d within gone rising = absurd (cc)
passed (Forgotten other ∷ entries) d within gone rising = (rising.1, refl, omega arith)

-- ---- a binary search finds it

module _ (entries : List Entry) (rising : Rising entries) (txn : ℕ) where
  comparisons_rise : IsNonDecreasingBy (λ entry. ordering_index (nat_cmp (entry_number entry) txn)) entries
  comparisons_rise i j d le within =
      let rise : entry_number (get_or entries i d) ≤ entry_number (get_or entries j d) = grind (arith, Rising-less entries rising i j d, λ (same : i ≡ j). ap (λ k. entry_number (get_or entries k d)) same) in
      grind (arith, nat_tests)

  apart : (entry : Entry) → entry_number entry ≢ txn → is_of txn entry ≡ false
  apart entry differs = grind (arith, common_steps)

  -- where one of this number stands, the first of this number stands
  pub position-stands : (place : ℕ) → place < length entries → ((d : Entry) → entry_number (get_or entries place d) ≡ txn) → position_from (is_of txn) 0 entries ≡ Some place
  position-stands place inside own = position-IsFirst (is_of txn) entries place (record {
    within = inside;
    passes = λ d. grind (arith, common_steps, own d);
    before = λ other d less. apart (get_or entries other d) (λ same. omega (arith, Rising-less entries rising other place d less inside, own d));
  })

  pub position-read : (place : ℕ) (entry : Entry) → place < length entries → entry ≡ get_or entries place entry → entry_number entry ≡ txn → position_from (is_of txn) 0 entries ≡ Some place
  position-read place entry inside read own = position-stands place inside (λ d. ap entry_number (get_or_default entries place d entry inside ∙ sym read) ∙ own)

  pub searched : (r : Result ℕ ℕ) (len : ℕ) → len ≡ length entries → IsSearchInRange r len → IsBinarySearchResult (λ entry. nat_cmp (entry_number entry) txn) entries r → position_from (is_of txn) 0 entries ≡ result_ok r
  searched (Ok place) len is within equal =
      let inside : place < length entries = rw (← is) within in
      position-stands place inside (λ d. ranked _ txn _ (sym (equal d)))
  searched (Err gap) len is within parted = position-AllFail (is_of txn) entries fail
    where
      fail : AllFail (is_of txn) entries
      fail place d inside =
          ⊎_elim
          (λ low. apart (get_or entries place d) (λ same. omega (arith, ranked (entry_number (get_or entries place d)) txn _ (sym ((parted comparisons_rise).0 place d (omega arith) low)))))
          (λ high. apart (get_or entries place d) (λ same. omega (arith, ranked (entry_number (get_or entries place d)) txn _ (sym ((parted comparisons_rise).1 place d high inside)))))
          (cases_lt place gap)

-- ---- what is read and written at the place of a number

module _ (txn : ℕ) (entries : List Entry) (place : ℕ) (rising : Rising entries) (found : position_from (is_of txn) 0 entries ≡ Some place) (entry : Entry) (read : entry ≡ get_or entries place entry) where
  pub first : IsFirst (is_of txn) entries place
  first = IsFirst-position (is_of txn) entries place found

  pub kept_as_read : kept_as txn (all_kept entries) ≡ entry_kept entry
  kept_as_read = kept_as-IsFirst txn entries place entry rising first ∙ ap entry_kept (sym read)

  pub changed_read : (change : Tracked → Tracked) (new : Entry) → new ≡ entry_with change entry → all_kept (set entries place new) ≡ changed txn change (all_kept entries)
  changed_read change new is = ap (λ it. all_kept (set entries place it)) (is ∙ ap (entry_with change) read) ∙ changed-IsFirst txn change entries place entry rising first

  pub without_read : all_kept (set entries place (Forgotten txn)) ≡ without (txn ∷ []) (all_kept entries)
  without_read = without-IsFirst txn entries place rising first

  pub count_read : (change : Tracked → Tracked) (new : Entry) → new ≡ entry_with change entry → length (all_kept (set entries place new)) ≡ length (all_kept entries)
  count_read change new is = ap length (changed_read change new is) ∙ length-map (all_kept entries) (λ kept. if number kept == txn then change kept else kept)

  pub rising_set : (new : Entry) → entry_number new ≡ entry_number entry → Rising (set entries place new)
  rising_set new same = Rising-set entries place new entry rising (same ∙ ap entry_number read)

  -- the entry that is written has the number still
  pub kept_as_set : (new : Entry) → entry_number new ≡ entry_number entry → kept_as txn (all_kept (set entries place new)) ≡ entry_kept new
  kept_as_set new same =
      let there : IsFirst (is_of txn) (set entries place new) place = record {
        within = omega (arith, first.within, length-set entries place new);
        passes = λ d. rw (get_or-set_same entries place new d first.within) (ap (λ n. n == txn) (same ∙ ap entry_number read) ∙ first.passes entry);
        before = λ other d less. rw (get_or-set_other entries place other new d (omega arith)) (first.before other d less);
      } in
      kept_as-IsFirst txn (set entries place new) place new (rising_set new same) there ∙ ap entry_kept (get_or-set_same entries place new new first.within)

  pub own : entry_number entry ≡ txn
  own = own_number txn entry (ap (is_of txn) read ∙ first.passes entry)

pub kept_as-none : (txn : ℕ) (entries : List Entry) → position_from (is_of txn) 0 entries ≡ None → kept_as txn (all_kept entries) ≡ None
kept_as-none txn entries none = kept_as-AllFail txn entries (AllFail-position (is_of txn) entries none)

pub changed-none : (txn : ℕ) (change : Tracked → Tracked) (entries : List Entry) → position_from (is_of txn) 0 entries ≡ None → changed txn change (all_kept entries) ≡ all_kept entries
changed-none txn change entries none = changed-AllFail txn change entries (AllFail-position (is_of txn) entries none)

pub without-none : (txn : ℕ) (entries : List Entry) → position_from (is_of txn) 0 entries ≡ None → without (txn ∷ []) (all_kept entries) ≡ all_kept entries
without-none txn entries none = without-AllFail txn entries (AllFail-position (is_of txn) entries none)

-- a change of its transaction that leaves the number leaves that of the entry
pub number-entry_with : (change : Tracked → Tracked) → ((kept : Tracked) → number (change kept) ≡ number kept) → (entry : Entry) → entry_number (entry_with change entry) ≡ entry_number entry
number-entry_with change same (Kept kept) = same kept
number-entry_with change same (Forgotten gone) = refl

-- ---- what is found still

kept_as-goes : (txn : ℕ) (all : List Tracked) → is_over (kept_as txn (without (txn ∷ []) all)) ≡ false
kept_as-goes txn [] = refl
kept_as-goes txn (kept ∷ all) =
    ⊎_elim
    (λ own. rw (goes txn kept true own) (kept_as-goes txn all))
    (λ other. rw (goes txn kept false other, other) (kept_as-goes txn all))
    (cases_Bool (number kept == txn))

not_own : (txn gone : ℕ) (kept : Tracked) → list_any (λ other. other == number kept) (gone ∷ []) ≡ true → (gone == txn) ≡ false → (number kept == txn) ≡ false
not_own txn gone kept lost differs = grind (arith, common_steps)

kept_as-stays : (txn gone : ℕ) (all : List Tracked) → (gone == txn) ≡ false → kept_as txn (without (gone ∷ []) all) ≡ kept_as txn all
kept_as-stays txn gone [] differs = refl
kept_as-stays txn gone (kept ∷ all) differs =
    ⊎_elim
    (λ lost.
    let rest : without (gone ∷ []) (kept ∷ all) ≡ without (gone ∷ []) all = rw lost refl in
    let further : kept_as txn (kept ∷ all) ≡ kept_as txn all = rw (not_own txn gone kept lost differs) refl in
    ap (kept_as txn) rest ∙ (kept_as-stays txn gone all differs ∙ sym further))
    (λ stays.
    let rest : without (gone ∷ []) (kept ∷ all) ≡ kept ∷ without (gone ∷ []) all = rw stays refl in
    ap (kept_as txn) rest ∙ ⊎_elim (λ own. rw own refl) (λ other. rw other (kept_as-stays txn gone all differs)) (cases_Bool (number kept == txn)))
    (cases_Bool (list_any (λ other. other == number kept) (gone ∷ [])))

-- a transaction of which nothing is left is still kept, unless it is the one that is forgotten
pub kept_as-without : (txn gone : ℕ) (all : List Tracked) → is_over (kept_as txn all) ≡ true → is_over (kept_as txn (without (gone ∷ []) all)) ≡ not (gone == txn)
kept_as-without txn gone all over =
    ⊎_elim
    (λ (same : (gone == txn) ≡ true). rw (same, eqb-true gone txn same) (kept_as-goes txn all))
    (λ differs. rw (kept_as-stays txn gone all differs, differs) over)
    (cases_Bool (gone == txn))
