-- Entries that are found by their slots, as they change their places, come and go.
use Rattle.std.proofs.Common.{◌≡◌, ◌≢◌, ℕ, ◌+◌, ◌^◌, ◌<◌, List, [], ◌∷◌, ◌++◌, length, take, set, get_or, Option, Some, None, is_some, cond, count_by, refl, sym, ap, ◌∙◌, inl, inr, arith}
use Rattle.std.proofs.Math.ListN.{get_or-map}
use Rattle.std.proofs.lemmas.Bool.{cases_eq}
use Rattle.std.proofs.lemmas.List.{ext_get_or, get_or-set_same, get_or-set_other, get_or_past, get_or_append_left, get_or_at, get_or-take, length-set, length-map, length-take-le, length_push, set-get_or}
use Rattle.std.proofs.lemmas.List.Sums.{count_by-le-length, sum_by-set}
use Rattle.boss_timers.specs.declared.entry.Entry.{Entry}
use Rattle.boss_timers.specs.Heap.{IsExchanged, IsIndexed, entry_at, moment_at, place_of, times}

-- ---- what the slots have

pub times-at : (entries : List Entry) (places : List (Option ℕ)) (slot : ℕ) → get_or (times entries places) slot None ≡ moment_at entries (place_of places slot)
times-at entries places slot = get_or-map (moment_at entries) places slot None

-- a slot that leads to a place is one of the table
pub within-from_place : (places : List (Option ℕ)) (slot place : ℕ) → place_of places slot ≡ Some place → slot < length places
within-from_place places slot place leads = grind (arith, get_or_past)

-- two tables have the same timers where each slot does
times-same : (entries entries' : List Entry) (places places' : List (Option ℕ)) → length places' ≡ length places
    → ((slot : ℕ) → moment_at entries' (place_of places' slot) ≡ moment_at entries (place_of places slot)) → times entries' places' ≡ times entries places
times-same entries entries' places places' same each =
    ext_get_or None (times entries' places') (times entries places) (length-map places' (moment_at entries') ∙ same ∙ sym (length-map places (moment_at entries)))
    (λ slot _. times-at entries' places' slot ∙ each slot ∙ sym (times-at entries places slot))

-- and but for one slot where each other one does
times-changed : (entries entries' : List Entry) (places places' : List (Option ℕ)) (slot : ℕ) (moment : Option ℕ) → length places' ≡ length places → slot < length places
    → moment_at entries' (place_of places' slot) ≡ moment
    → ((other : ℕ) → other ≢ slot → moment_at entries' (place_of places' other) ≡ moment_at entries (place_of places other))
    → times entries' places' ≡ set (times entries places) slot moment
times-changed entries entries' places places' slot moment same within here each =
    ext_get_or None (times entries' places') (set (times entries places) slot moment)
    (length-map places' (moment_at entries') ∙ same ∙ sym (length-map places (moment_at entries)) ∙ sym (length-set (times entries places) slot moment))
    (λ other _. elim (cases_eq other slot) [
      | inl is ↦ rw (times-at entries' places' other, is) (here ∙ sym (get_or-set_same (times entries places) slot moment None (rw (length-map places (moment_at entries)) within)))
      | inr differs ↦ rw (times-at entries' places' other, get_or-set_other (times entries places) slot other moment None differs, times-at entries places other) (each other differs)
    ])

-- ---- two entries change their places

module _ (entries entries' : List Entry) (places places' : List (Option ℕ)) (upper lower : ℕ) (order : upper < lower) (inside : lower < length entries) (size : length entries' ≡ length entries) (indexed : IsIndexed entries places) (exchanged : IsExchanged entries entries' upper lower)
    (one : place_of places' (entry_at entries upper).slot ≡ Some lower) (two : place_of places' (entry_at entries lower).slot ≡ Some upper)
    (others : (slot : ℕ) → slot ≢ (entry_at entries upper).slot → slot ≢ (entry_at entries lower).slot → place_of places' slot ≡ place_of places slot) where
  -- a slot of neither leads to neither
  apart : (place : ℕ) → place < length entries → (other : ℕ) → other < length entries → other ≢ place → (entry_at entries other).slot ≢ (entry_at entries place).slot
  apart place within other within' differs same =
      let here = indexed.leads place within in
      let there = indexed.leads other within' in
      let both : Some other ≡ Some place = sym there ∙ ap (place_of places) same ∙ here in
      differs (cc)

  leads-exchanged : (place : ℕ) → place < length entries' → place_of places' (entry_at entries' place).slot ≡ Some place
  leads-exchanged place within =
      elim (cases_eq place upper) [
        | inl is ↦ rw (is, exchanged.here) two
        | inr not-upper ↦ elim (cases_eq place lower) [
          | inl is ↦ rw (is, exchanged.there) one
          | inr not-lower ↦
              let place-within : place < length entries = omega arith in
              let upper-within : upper < length entries = omega arith in
              rw (exchanged.others place not-upper not-lower)
              (others _ (apart upper upper-within place place-within not-upper) (apart lower inside place place-within not-lower) ∙ indexed.leads place place-within)
        ]
      ]

  -- what another slot leads to has stayed
  stays : (slot place : ℕ) → slot ≢ (entry_at entries upper).slot → slot ≢ (entry_at entries lower).slot → place_of places slot ≡ Some place → entry_at entries' place ≡ entry_at entries place
  stays slot place not-one not-two leads =
      exchanged.others place (λ is. not-one (sym (indexed.back slot place leads).1 ∙ ap (λ k. (entry_at entries k).slot) is)) (λ is. not-two (sym (indexed.back slot place leads).1 ∙ ap (λ k. (entry_at entries k).slot) is))

  back-exchanged : (slot place : ℕ) → place_of places' slot ≡ Some place → (place < length entries') × ((entry_at entries' place).slot ≡ slot)
  back-exchanged slot place leads =
      elim (cases_eq slot (entry_at entries upper).slot) [
        | inl is ↦
            let both : Some lower ≡ Some place = sym one ∙ ap (place_of places') (sym is) ∙ leads in
            let same : place ≡ lower = cc in
            (omega arith, rw (same, exchanged.there) (sym is))
        | inr not-one ↦ elim (cases_eq slot (entry_at entries lower).slot) [
          | inl is ↦
              let both : Some upper ≡ Some place = sym two ∙ ap (place_of places') (sym is) ∙ leads in
              let same : place ≡ upper = cc in
              (omega arith, rw (same, exchanged.here) (sym is))
          | inr not-two ↦
              let before = sym (others slot not-one not-two) ∙ leads in
              (omega (arith, (indexed.back slot place before).0), ap (λ (entry : Entry). entry.slot) (stays slot place not-one not-two before) ∙ (indexed.back slot place before).1)
        ]
      ]

  pub IsIndexed-exchanged : IsIndexed entries' places'
  IsIndexed-exchanged = record { leads = leads-exchanged; back = back-exchanged; few = omega (arith, indexed.few) }

  moment-stays : (slot : ℕ) (place : Option ℕ) → slot ≢ (entry_at entries upper).slot → slot ≢ (entry_at entries lower).slot → place_of places slot ≡ place → moment_at entries' place ≡ moment_at entries place
  moment-stays slot None not-one not-two leads = refl
  moment-stays slot (Some place) not-one not-two leads = ap (λ (entry : Entry). Some entry.moment) (stays slot place not-one not-two leads)

  moment-same : (slot : ℕ) → moment_at entries' (place_of places' slot) ≡ moment_at entries (place_of places slot)
  moment-same slot =
      elim (cases_eq slot (entry_at entries upper).slot) [
        | inl is ↦ rw (is, one, indexed.leads upper (omega arith)) (ap (λ (entry : Entry). Some entry.moment) exchanged.there)
        | inr not-one ↦ elim (cases_eq slot (entry_at entries lower).slot) [
          | inl is ↦ rw (is, two, indexed.leads lower inside) (ap (λ (entry : Entry). Some entry.moment) exchanged.here)
          | inr not-two ↦ rw (others slot not-one not-two) (moment-stays slot (place_of places slot) not-one not-two refl)
        ]
      ]

  pub times-exchanged : length places' ≡ length places → times entries' places' ≡ times entries places
  times-exchanged same = times-same entries entries' places places' same moment-same

-- what two puts do to the entries
pub IsExchanged-put : (entries : List Entry) (upper lower : ℕ) (above below : Entry) → upper < lower → lower < length entries → above ≡ entry_at entries upper → below ≡ entry_at entries lower
    → IsExchanged entries (set (set entries upper below) lower above) upper lower
IsExchanged-put entries upper lower above below order inside is-above is-below =
    let upper-lower : upper ≢ lower = omega arith in
    let first : upper < length entries = omega arith in
    let second : lower < length (set entries upper below) = omega (arith, length-set entries upper below) in
    record {
      here = get_or-set_other (set entries upper below) lower upper above _ upper-lower ∙ get_or-set_same entries upper below _ first ∙ is-below;
      there = get_or-set_same (set entries upper below) lower above _ second ∙ is-above;
      others = λ place not-upper not-lower. get_or-set_other (set entries upper below) lower place above _ not-lower ∙ get_or-set_other entries upper place below _ not-upper;
    }

-- and to the places, for two slots that differ
module _ (places : List (Option ℕ)) (upper lower one two : ℕ) (differ : two ≢ one) (one-within : one < length places) (two-within : two < length places) where
  pub put-one : place_of (set (set places two (Some upper)) one (Some lower)) one ≡ Some lower
  put-one = get_or-set_same (set places two (Some upper)) one (Some lower) None (omega (arith, length-set places two (Some upper)))

  pub put-two : place_of (set (set places two (Some upper)) one (Some lower)) two ≡ Some upper
  put-two = get_or-set_other (set places two (Some upper)) one two (Some lower) None differ ∙ get_or-set_same places two (Some upper) None two-within

  pub put-others : (slot : ℕ) → slot ≢ one → slot ≢ two → place_of (set (set places two (Some upper)) one (Some lower)) slot ≡ place_of places slot
  put-others slot not-one not-two = get_or-set_other (set places two (Some upper)) one slot (Some lower) None not-one ∙ get_or-set_other places two slot (Some upper) None not-two

-- ---- a slot gets another moment

module _ (entries : List Entry) (places : List (Option ℕ)) (place : ℕ) (entry : Entry) (indexed : IsIndexed entries places) (leads : place_of places entry.slot ≡ Some place) where
  pub within-indexed : place < length entries
  within-indexed = (indexed.back entry.slot place leads).0

  changed-here : entry_at (set entries place entry) place ≡ entry
  changed-here = get_or-set_same entries place entry _ within-indexed

  pub changed-other : (other : ℕ) → other ≢ place → entry_at (set entries place entry) other ≡ entry_at entries other
  changed-other other differs = get_or-set_other entries place other entry _ differs

  slot-same : (other : ℕ) → (entry_at (set entries place entry) other).slot ≡ (entry_at entries other).slot
  slot-same other =
      elim (cases_eq other place) [
        | inl is ↦ rw (is, changed-here) (sym (indexed.back entry.slot place leads).1)
        | inr differs ↦ ap (λ (e : Entry). e.slot) (changed-other other differs)
      ]

  pub IsIndexed-changed : IsIndexed (set entries place entry) places
  IsIndexed-changed = record {
    leads = λ other within. rw (slot-same other) (indexed.leads other (omega (arith, within, length-set entries place entry)));
    back = λ slot other there. (omega (arith, (indexed.back slot other there).0, length-set entries place entry), slot-same other ∙ (indexed.back slot other there).1);
    few = omega (arith, indexed.few, length-set entries place entry);
  }

  moment-other : (slot : ℕ) (other : Option ℕ) → slot ≢ entry.slot → place_of places slot ≡ other → moment_at (set entries place entry) other ≡ moment_at entries other
  moment-other slot None differs there = refl
  moment-other slot (Some other) differs there =
      ap (λ (e : Entry). Some e.moment) (changed-other other (λ is. differs (sym (indexed.back slot other there).1 ∙ ap (λ k. (entry_at entries k).slot) is ∙ (indexed.back entry.slot place leads).1)))

  pub times-set : times (set entries place entry) places ≡ set (times entries places) entry.slot (Some entry.moment)
  times-set =
      times-changed entries (set entries place entry) places places entry.slot (Some entry.moment) refl (within-from_place places entry.slot place leads)
      (rw leads (ap (λ (e : Entry). Some e.moment) changed-here))
      (λ slot differs. moment-other slot (place_of places slot) differs refl)

-- ---- a slot gets a timer that had none

module _ (entries : List Entry) (places : List (Option ℕ)) (entry : Entry) (indexed : IsIndexed entries places) (within : entry.slot < length places) (nowhere : place_of places entry.slot ≡ None) where
  pushed-here : entry_at (entries ++ entry ∷ []) (length entries) ≡ entry
  pushed-here = get_or_at entries entry [] _ (length entries) refl

  pub pushed-before : (other : ℕ) → other < length entries → entry_at (entries ++ entry ∷ []) other ≡ entry_at entries other
  pushed-before other before = get_or_append_left entries (entry ∷ []) _ other before

  not-there : (other : ℕ) → other < length entries → (entry_at entries other).slot ≢ entry.slot
  not-there other before same =
      let there = indexed.leads other before in
      let both : Some other ≡ None = sym there ∙ ap (place_of places) same ∙ nowhere in
      cc

  leads-pushed : (other : ℕ) → other < length (entries ++ entry ∷ []) → place_of (set places entry.slot (Some (length entries))) (entry_at (entries ++ entry ∷ []) other).slot ≡ Some other
  leads-pushed other before =
      elim (cases_eq other (length entries)) [
        | inl is ↦ rw (is, pushed-here) (get_or-set_same places entry.slot (Some (length entries)) None within)
        | inr differs ↦
            let old : other < length entries = omega (arith, length_push entries entry) in
            rw (pushed-before other old) (get_or-set_other places entry.slot _ (Some (length entries)) None (not-there other old) ∙ indexed.leads other old)
      ]

  back-pushed : (slot other : ℕ) → place_of (set places entry.slot (Some (length entries))) slot ≡ Some other → (other < length (entries ++ entry ∷ [])) × ((entry_at (entries ++ entry ∷ []) other).slot ≡ slot)
  back-pushed slot other there =
      elim (cases_eq slot entry.slot) [
        | inl is ↦
            let both : Some (length entries) ≡ Some other = sym (get_or-set_same places entry.slot (Some (length entries)) None within) ∙ ap (place_of (set places entry.slot (Some (length entries)))) (sym is) ∙ there in
            let same : other ≡ length entries = cc in
            (omega (arith, length_push entries entry), rw (same, pushed-here) (sym is))
        | inr differs ↦
            let old = sym (get_or-set_other places entry.slot slot (Some (length entries)) None differs) ∙ there in
            let before = indexed.back slot other old in
            (omega (arith, before.0, length_push entries entry), ap (λ (e : Entry). e.slot) (pushed-before other before.0) ∙ before.1)
      ]

  pub IsIndexed-pushed : length entries + 1 < 2 ^ 32 → IsIndexed (entries ++ entry ∷ []) (set places entry.slot (Some (length entries)))
  IsIndexed-pushed few = record { leads = leads-pushed; back = back-pushed; few = omega (arith, few, length_push entries entry) }

  moment-before : (slot : ℕ) (other : Option ℕ) → place_of places slot ≡ other → moment_at (entries ++ entry ∷ []) other ≡ moment_at entries other
  moment-before slot None there = refl
  moment-before slot (Some other) there = ap (λ (e : Entry). Some e.moment) (pushed-before other (indexed.back slot other there).0)

  pub times-pushed : times (entries ++ entry ∷ []) (set places entry.slot (Some (length entries))) ≡ set (times entries places) entry.slot (Some entry.moment)
  times-pushed =
      times-changed entries (entries ++ entry ∷ []) places (set places entry.slot (Some (length entries))) entry.slot (Some entry.moment) (length-set places entry.slot (Some (length entries))) within
      (rw (get_or-set_same places entry.slot (Some (length entries)) None within) (ap (λ (e : Entry). Some e.moment) pushed-here))
      (λ slot differs. rw (get_or-set_other places entry.slot slot (Some (length entries)) None differs) (moment-before slot (place_of places slot) refl))

-- ---- the last timer goes

module _ (entries : List Entry) (places : List (Option ℕ)) (last slot : ℕ) (is-last : last + 1 ≡ length entries) (is-slot : slot ≡ (entry_at entries last).slot) (indexed : IsIndexed entries places) where
  last-leads : place_of places slot ≡ Some last
  last-leads = ap (place_of places) is-slot ∙ indexed.leads last (omega arith)

  within-last : slot < length places
  within-last = within-from_place places slot last last-leads

  pub taken-before : (other : ℕ) → other < last → entry_at (take last entries) other ≡ entry_at entries other
  taken-before other before = get_or-take last entries other _ before

  pub length-taken : length (take last entries) ≡ last
  length-taken = length-take-le last entries (omega arith)

  another-slot : (other : ℕ) → other < last → (entry_at entries other).slot ≢ slot
  another-slot other before same =
      let there = indexed.leads other (omega arith) in
      let both : Some other ≡ Some last = sym there ∙ ap (place_of places) same ∙ last-leads in
      let is : other ≡ last = cc in
      omega arith

  before-last : (at other : ℕ) → at ≢ slot → place_of places at ≡ Some other → other < last
  before-last at other differs there =
      let back = indexed.back at other there in
      let not-last : other ≢ last = λ is. differs (sym back.1 ∙ ap (λ k. (entry_at entries k).slot) is ∙ sym is-slot) in
      omega (arith, back.0)

  leads-taken : (other : ℕ) → other < length (take last entries) → place_of (set places slot None) (entry_at (take last entries) other).slot ≡ Some other
  leads-taken other within =
      let before : other < last = omega (arith, within, length-taken) in
      rw (taken-before other before) (get_or-set_other places slot _ None None (another-slot other before) ∙ indexed.leads other (omega arith))

  back-taken : (at other : ℕ) → place_of (set places slot None) at ≡ Some other → (other < length (take last entries)) × ((entry_at (take last entries) other).slot ≡ at)
  back-taken at other there =
      elim (cases_eq at slot) [
        | inl is ↦
            let both : None ≡ Some other = sym (get_or-set_same places slot None None within-last) ∙ ap (place_of (set places slot None)) (sym is) ∙ there in
            absurd (cc)
        | inr differs ↦
            let old = sym (get_or-set_other places slot at None None differs) ∙ there in
            let before = before-last at other differs old in
            (omega (arith, before, length-taken), ap (λ (e : Entry). e.slot) (taken-before other before) ∙ (indexed.back at other old).1)
      ]

  pub IsIndexed-taken : IsIndexed (take last entries) (set places slot None)
  IsIndexed-taken = record { leads = leads-taken; back = back-taken; few = omega (arith, length-taken, indexed.few) }

  moment-taken : (at : ℕ) (other : Option ℕ) → at ≢ slot → place_of places at ≡ other → moment_at (take last entries) other ≡ moment_at entries other
  moment-taken at None differs there = refl
  moment-taken at (Some other) differs there = ap (λ (e : Entry). Some e.moment) (taken-before other (before-last at other differs there))

  pub times-taken : times (take last entries) (set places slot None) ≡ set (times entries places) slot None
  times-taken =
      times-changed entries (take last entries) places (set places slot None) slot None (length-set places slot None) within-last
      (rw (get_or-set_same places slot None None within-last) refl)
      (λ at differs. rw (get_or-set_other places slot at None None differs) (moment-taken at (place_of places at) differs refl))

-- ---- how many

-- a slot without a timer leaves room for one
pub fewer-set : (slots : List (Option ℕ)) (slot : ℕ) → slot < length slots → get_or slots slot None ≡ None → count_by is_some slots < length slots
fewer-set slots slot within none =
    omega (arith, count_by-le-length is_some (set slots slot (Some 0)), length-set slots slot (Some 0), sum_by-set (λ (s : Option ℕ). cond (is_some s) 1 0) slots slot (Some 0) None within, ap (λ (s : Option ℕ). cond {A = ℕ} (is_some s) 1 0) none)

pub count-set : (slots : List (Option ℕ)) (slot moment : ℕ) → slot < length slots → get_or slots slot None ≡ None → count_by is_some (set slots slot (Some moment)) ≡ count_by is_some slots + 1
count-set slots slot moment within none =
    omega (arith, sum_by-set (λ (s : Option ℕ). cond (is_some s) 1 0) slots slot (Some moment) None within, ap (λ (s : Option ℕ). cond {A = ℕ} (is_some s) 1 0) none)

pub count-again : (slots : List (Option ℕ)) (slot moment before : ℕ) → slot < length slots → get_or slots slot None ≡ Some before → count_by is_some (set slots slot (Some moment)) ≡ count_by is_some slots
count-again slots slot moment before within some =
    omega (arith, sum_by-set (λ (s : Option ℕ). cond (is_some s) 1 0) slots slot (Some moment) None within, ap (λ (s : Option ℕ). cond {A = ℕ} (is_some s) 1 0) some)

pub count-cleared : (slots : List (Option ℕ)) (slot before : ℕ) → slot < length slots → get_or slots slot None ≡ Some before → count_by is_some (set slots slot None) + 1 ≡ count_by is_some slots
count-cleared slots slot before within some =
    omega (arith, sum_by-set (λ (s : Option ℕ). cond (is_some s) 1 0) slots slot None None within, ap (λ (s : Option ℕ). cond {A = ℕ} (is_some s) 1 0) some)

-- no timer in a slot, and none put there
pub set-nothing : (slots : List (Option ℕ)) (slot : ℕ) → get_or slots slot None ≡ None → slots ≡ set slots slot None
set-nothing slots slot nothing = sym (set-get_or slots slot None) ∙ ap (set slots slot) nothing

-- ---- both puts of an exchange

module _ (entries : List Entry) (places : List (Option ℕ)) (upper lower : ℕ) (order : upper < lower) (inside : lower < length entries) (indexed : IsIndexed entries places)
    (entries' : List Entry) (places' : List (Option ℕ)) (is-entries : entries' ≡ set (set entries upper (entry_at entries lower)) lower (entry_at entries upper))
    (is-places : places' ≡ set (set places (entry_at entries lower).slot (Some upper)) (entry_at entries upper).slot (Some lower)) where
  slots-differ : (entry_at entries lower).slot ≢ (entry_at entries upper).slot
  slots-differ same =
      let both : Some lower ≡ Some upper = sym (indexed.leads lower inside) ∙ ap (place_of places) same ∙ indexed.leads upper (omega arith) in
      let is : lower ≡ upper = cc in
      omega arith

  upper-within : (entry_at entries upper).slot < length places
  upper-within = within-from_place places _ upper (indexed.leads upper (omega arith))

  lower-within : (entry_at entries lower).slot < length places
  lower-within = within-from_place places _ lower (indexed.leads lower inside)

  pub IsExchanged-both : IsExchanged entries entries' upper lower
  IsExchanged-both = rw is-entries (IsExchanged-put entries upper lower _ _ order inside refl refl)

  same-size : length entries' ≡ length entries
  same-size = ap length is-entries ∙ length-set (set entries upper (entry_at entries lower)) lower (entry_at entries upper) ∙ length-set entries upper (entry_at entries lower)

  same-slots : length places' ≡ length places
  same-slots = ap length is-places ∙ length-set (set places (entry_at entries lower).slot (Some upper)) (entry_at entries upper).slot (Some lower) ∙ length-set places (entry_at entries lower).slot (Some upper)

  one-there : place_of places' (entry_at entries upper).slot ≡ Some lower
  one-there = rw is-places (put-one places upper lower _ _ slots-differ upper-within lower-within)

  two-there : place_of places' (entry_at entries lower).slot ≡ Some upper
  two-there = rw is-places (put-two places upper lower _ _ slots-differ upper-within lower-within)

  others-there : (slot : ℕ) → slot ≢ (entry_at entries upper).slot → slot ≢ (entry_at entries lower).slot → place_of places' slot ≡ place_of places slot
  others-there slot not-one not-two = rw is-places (put-others places upper lower _ _ slots-differ upper-within lower-within slot not-one not-two)

  pub IsIndexed-both : IsIndexed entries' places'
  IsIndexed-both = IsIndexed-exchanged entries entries' places places' upper lower order inside same-size indexed IsExchanged-both one-there two-there others-there

  pub times-both : times entries' places' ≡ times entries places
  times-both = times-exchanged entries entries' places places' upper lower order inside same-size indexed IsExchanged-both one-there two-there others-there same-slots
