-- Leases under keys that lead to places in a slab, as they come and go.
use Rattle.std.proofs.Common.{◌≡◌, ◌≢◌, ◌⊎◌, ℕ, zero, suc, ◌+◌, ◌<◌, ◌==◌, true, false, cond, List, [], ◌∷◌, ◌++◌, length, set, get_or, replicate, Option, Some, None, is_some, is_none, IsSome, OnSome, count_by, refl, sym, ap, ◌∙◌, inl, inr, arith}
use Rattle.std.proofs.Math.ListN.{get_or-map}
use Rattle.std.proofs.lemmas.Bool.{cases_eq}
use Rattle.std.proofs.lemmas.Bool.Decides.{nat_tests}
use Rattle.std.proofs.lemmas.List.{ext_get_or, get_or-set_same, get_or-set_other, get_or_past, length-set, length-map, length-append, set-get_or}
use Rattle.std.proofs.lemmas.List.Sums.{sum_by-cons, sum_by-set, sum_by_push}
use Rattle.std.specs.Option.{option_to_list}
use Rattle.boss_model.specs.declared.state.Lease.{Lease}
use Rattle.slab.specs.Slab.{Slab, get, slab_len, Updates}
use Rattle.boss_leases.specs.Leases.{found, seen, place_of, is_unused, how_often, IsKept}

-- ---- what the keys find

-- a new table finds under each key what the old one does, but under one
pub seen-changed : (slab slab' : Slab Lease) (places places' : List (Option ℕ)) (key : ℕ) (slot : Option Lease) → length places' ≡ length places → key < length places
    → found slab' (place_of places' key) ≡ slot
    → ((other : ℕ) → other ≢ key → found slab' (place_of places' other) ≡ found slab (place_of places other))
    → seen slab' places' ≡ set (seen slab places) key slot
seen-changed slab slab' places places' key slot same within here others =
    ext_get_or None (seen slab' places') (set (seen slab places) key slot)
    (length-map places' (found slab') ∙ same ∙ sym (length-map places (found slab)) ∙ sym (length-set (seen slab places) key slot))
    (λ i _. elim (cases_eq i key) [
      | inl is ↦ rw (get_or-map (found slab') places' i None, is) (here ∙ sym (get_or-set_same (seen slab places) key slot None (rw (length-map places (found slab)) within)))
      | inr differs ↦ rw (get_or-map (found slab') places' i None, get_or-set_other (seen slab places) key i slot None differs, get_or-map (found slab) places i None) (others i differs)
    ])

-- a key that leads somewhere is of the table
pub within-from_place : (places : List (Option ℕ)) (key place : ℕ) → place_of places key ≡ Some place → key < length places
within-from_place places key place leads = grind (arith, get_or_past)

-- as many keys find a lease as lead somewhere
pub seen-count : (slab : Slab Lease) (places : List (Option ℕ)) → ((key place : ℕ) → place_of places key ≡ Some place → IsSome (get slab place))
    → count_by is_some (seen slab places) ≡ count_by is_some places
seen-count slab [] there = refl
seen-count slab (None ∷ places) there =
    omega (arith, seen-count slab places (λ key. there (suc key)), sum_by-cons (λ (slot : Option ℕ). cond (is_some slot) 1 0) None places, sum_by-cons (λ (slot : Option Lease). cond (is_some slot) 1 0) None (seen slab places))
seen-count slab (Some place ∷ places) there =
    let here : cond (is_some (get slab place)) 1 0 ≡ 1 = ap (λ b. cond {A = ℕ} b 1 0) (there 0 place refl) in
    omega (arith, here, seen-count slab places (λ key. there (suc key)), sum_by-cons (λ (slot : Option ℕ). cond (is_some slot) 1 0) (Some place) places, sum_by-cons (λ (slot : Option Lease). cond (is_some slot) 1 0) (get slab place) (seen slab places))

-- ---- free keys

how_often-push : (key other : ℕ) (keys : List ℕ) → how_often key (keys ++ other ∷ []) ≡ how_often key keys + cond (other == key) 1 0
how_often-push key other keys = sum_by_push (λ k. cond (k == key) 1 0) keys other

-- the last free key is unused, and no free key any more when it goes
pub last-unused : (slab : Slab Lease) (places : List (Option ℕ)) (free : List ℕ) (most key : ℕ) → IsKept slab places (free ++ key ∷ []) most → is_unused places key ≡ true
last-unused slab places free most key kept =
    grind (arith, nat_tests, kept.unused key, how_often-push key key free)

-- the stack without its last key, and that key
pub IsKept-popped : (slab : Slab Lease) (places : List (Option ℕ)) (free rest : List ℕ) (most most' : ℕ) (top : Option ℕ) (key : ℕ) → free ≡ rest ++ option_to_list top → top ≡ Some key → most' ≡ most
    → IsKept slab places free most → IsKept slab places (rest ++ key ∷ []) most'
IsKept-popped slab places free rest most most' top key items is same kept = rw (same, ← ap option_to_list is, ← items) kept

-- ---- one key of the table changes

pub unused-set : (places : List (Option ℕ)) (key : ℕ) (slot : Option ℕ) (other : ℕ) → key < length places → is_unused (set places key slot) other ≡ cond (other == key) (is_none slot) (is_unused places other)
unused-set places key slot other within =
    elim (cases_eq other key) [
      | inl is ↦ grind (arith, nat_tests, is, length-set places key slot, get_or-set_same places key slot None within)
      | inr differs ↦ grind (arith, nat_tests, differs, length-set places key slot, get_or-set_other places key other slot None differs)
    ]

-- what leads somewhere now is the key that changed, or did so before
leads-set : (places : List (Option ℕ)) (key : ℕ) (slot : Option ℕ) (other place : ℕ) → key < length places → place_of (set places key slot) other ≡ Some place
    → ((other ≡ key) × (slot ≡ Some place)) ⊎ ((other ≢ key) × (place_of places other ≡ Some place))
leads-set places key slot other place within leads =
    elim (cases_eq other key) [
      | inl is ↦ inl (is, sym (get_or-set_same places key slot None within) ∙ ap (place_of (set places key slot)) (sym is) ∙ leads)
      | inr differs ↦ inr (differs, sym (get_or-set_other places key other slot None differs) ∙ leads)
    ]

-- ---- a lease comes under the last of the free keys

module _ (slab slab' : Slab Lease) (places : List (Option ℕ)) (free : List ℕ) (most key place : ℕ) (lease : Lease) (kept : IsKept slab places (free ++ key ∷ []) most) (vacant : get slab place ≡ None) (updates : Updates slab slab' place (Some lease)) where
  unused-before : is_unused places key ≡ true
  unused-before = last-unused slab places free most key kept

  pub within-before : key < length places
  within-before = let is = unused-before in grind (arith, nat_tests)

  pub nowhere-before : place_of places key ≡ None
  nowhere-before = let is = unused-before in grind (arith, nat_tests)

  other-place : (other taken : ℕ) → place_of places other ≡ Some taken → taken ≢ place
  other-place other taken leads is = let there = kept.there other taken leads in grind arith

  stays : (other taken : ℕ) → place_of places other ≡ Some taken → get slab' taken ≡ get slab taken
  stays other taken leads = updates.others taken (other-place other taken leads)

  found-stays : (other : ℕ) (slot : Option ℕ) → place_of places other ≡ slot → found slab' slot ≡ found slab slot
  found-stays other None leads = refl
  found-stays other (Some taken) leads = stays other taken leads

  pub seen-added : seen slab' (set places key (Some place)) ≡ set (seen slab places) key (Some lease)
  seen-added =
      seen-changed slab slab' places (set places key (Some place)) key (Some lease) (length-set places key (Some place)) within-before
      (ap (found slab') (get_or-set_same places key (Some place) None within-before) ∙ updates.changed)
      (λ other differs. ap (found slab') (get_or-set_other places key other (Some place) None differs) ∙ found-stays other (place_of places other) refl)

  there-added : (other taken : ℕ) → place_of (set places key (Some place)) other ≡ Some taken → IsSome (get slab' taken)
  there-added other taken leads =
      elim (leads-set places key (Some place) other taken within-before leads) [
        | inl (is, same) ↦ let changed = updates.changed in grind arith
        | inr (differs, before) ↦ ap is_some (stays other taken before) ∙ kept.there other taken before
      ]

  apart-added : (first second taken : ℕ) → place_of (set places key (Some place)) first ≡ Some taken → place_of (set places key (Some place)) second ≡ Some taken → first ≡ second
  apart-added first second taken one two =
      elim (leads-set places key (Some place) first taken within-before one) [
        | inl (is, same) ↦ elim (leads-set places key (Some place) second taken within-before two) [
          | inl (is', _) ↦ is ∙ sym is'
          | inr (_, before) ↦ absurd (other-place second taken before (cc))
        ]
        | inr (_, before) ↦ elim (leads-set places key (Some place) second taken within-before two) [
          | inl (_, same) ↦ absurd (other-place first taken before (cc))
          | inr (_, before') ↦ kept.apart first second taken before before'
        ]
      ]

  pub IsKept-added : slab_len slab' ≡ slab_len slab + 1 → slab'.capacity ≡ slab.capacity → IsKept slab' (set places key (Some place)) free most
  IsKept-added more same = record {
    there = there-added;
    apart = apart-added;
    unused = λ other. grind (arith, nat_tests, kept.unused other, how_often-push other key free, unused-set places key (Some place) other within-before, unused-before);
    all = omega (arith, kept.all, length-append free (key ∷ []), sum_by-set (λ (slot : Option ℕ). cond (is_some slot) 1 0) places key (Some place) None within-before, ap (λ (slot : Option ℕ). cond {A = ℕ} (is_some slot) 1 0) nowhere-before, length-set places key (Some place));
    room = omega (arith, kept.room, length-append free (key ∷ []), more, same);
    stack = omega (arith, kept.stack, length-set places key (Some place));
    few = omega (arith, kept.few, length-set places key (Some place));
  }

-- ---- the lease of a key goes

module _ (slab slab' : Slab Lease) (places : List (Option ℕ)) (free : List ℕ) (most key place : ℕ) (kept : IsKept slab places free most) (leads : place_of places key ≡ Some place) where
  pub within-leading : key < length places
  within-leading = within-from_place places key place leads

  other-place' : (other taken : ℕ) → other ≢ key → place_of places other ≡ Some taken → taken ≢ place
  other-place' other taken differs there is = differs (kept.apart other key place (there ∙ ap (λ p. Some p) is) leads)

  module _ (slot : Option Lease) (updates : Updates slab slab' place slot) where
    stays' : (other taken : ℕ) → other ≢ key → place_of places other ≡ Some taken → get slab' taken ≡ get slab taken
    stays' other taken differs there = updates.others taken (other-place' other taken differs there)

    found-stays' : (other : ℕ) (is : Option ℕ) → other ≢ key → place_of places other ≡ is → found slab' is ≡ found slab is
    found-stays' other None differs there = refl
    found-stays' other (Some taken) differs there = stays' other taken differs there

  pub seen-taken : Updates slab slab' place None → seen slab' (set places key None) ≡ set (seen slab places) key None
  seen-taken updates =
      seen-changed slab slab' places (set places key None) key None (length-set places key None) within-leading
      (ap (found slab') (get_or-set_same places key None None within-leading))
      (λ other differs. ap (found slab') (get_or-set_other places key other None None differs) ∙ found-stays' None updates other (place_of places other) differs refl)

  pub seen-extended : (lease : Lease) → Updates slab slab' place (Some lease) → seen slab' places ≡ set (seen slab places) key (Some lease)
  seen-extended lease updates =
      seen-changed slab slab' places places key (Some lease) refl within-leading (ap (found slab') leads ∙ updates.changed)
      (λ other differs. found-stays' (Some lease) updates other (place_of places other) differs refl)

  there-taken : Updates slab slab' place None → (other taken : ℕ) → place_of (set places key None) other ≡ Some taken → IsSome (get slab' taken)
  there-taken updates other taken after =
      elim (leads-set places key None other taken within-leading after) [
        | inl (_, same) ↦ absurd (cc)
        | inr (differs, before) ↦ ap is_some (stays' None updates other taken differs before) ∙ kept.there other taken before
      ]

  apart-taken : (first second taken : ℕ) → place_of (set places key None) first ≡ Some taken → place_of (set places key None) second ≡ Some taken → first ≡ second
  apart-taken first second taken one two =
      elim (leads-set places key None first taken within-leading one) [
        | inl (_, same) ↦ absurd (cc)
        | inr (_, before) ↦ elim (leads-set places key None second taken within-leading two) [
          | inl (_, same) ↦ absurd (cc)
          | inr (_, before') ↦ kept.apart first second taken before before'
        ]
      ]

  used : is_unused places key ≡ false
  used = grind (arith, nat_tests)

  pub IsKept-taken : Updates slab slab' place None → slab_len slab' + 1 ≡ slab_len slab → slab'.capacity ≡ slab.capacity → IsKept slab' (set places key None) (free ++ key ∷ []) most
  IsKept-taken updates less same = record {
    there = there-taken updates;
    apart = apart-taken;
    unused = λ other. grind (arith, nat_tests, kept.unused other, how_often-push other key free, unused-set places key None other within-leading, used);
    all = omega (arith, kept.all, length-append free (key ∷ []), sum_by-set (λ (slot : Option ℕ). cond (is_some slot) 1 0) places key None None within-leading, ap (λ (slot : Option ℕ). cond {A = ℕ} (is_some slot) 1 0) leads, length-set places key None);
    room = omega (arith, kept.room, length-append free (key ∷ []), less, same);
    stack = omega (arith, kept.stack, length-set places key None);
    few = omega (arith, kept.few, length-set places key None);
  }

  -- ---- or it gets another end

  there-extended : (lease : Lease) → Updates slab slab' place (Some lease) → (other taken : ℕ) → place_of places other ≡ Some taken → IsSome (get slab' taken)
  there-extended lease updates other taken there =
      elim (cases_eq taken place) [
        | inl is ↦ let changed = updates.changed in grind arith
        | inr differs ↦ ap is_some (updates.others taken differs) ∙ kept.there other taken there
      ]

  pub IsKept-extended : (lease : Lease) → Updates slab slab' place (Some lease) → slab_len slab' ≡ slab_len slab → slab'.capacity ≡ slab.capacity → IsKept slab' places free most
  IsKept-extended lease updates as_many same = record {
    there = there-extended lease updates;
    apart = kept.apart;
    unused = kept.unused;
    all = kept.all;
    room = omega (arith, kept.room, as_many, same);
    stack = kept.stack;
    few = kept.few;
  }

-- ---- what a caller sees

-- what is told of a lease that was there
pub on_some : {T : Type 0} (result : Option T) (P : Type 0) → IsSome result → OnSome result P → P
on_some None P there told = absurd (cc)
on_some (Some value) P there told = told

pub seen-at : (slab : Slab Lease) (places : List (Option ℕ)) (key : ℕ) → get_or (seen slab places) key None ≡ found slab (place_of places key)
seen-at slab places key = get_or-map (found slab) places key None

-- where fewer leases are there than keys, a key is free
pub some-free : (slab : Slab Lease) (places : List (Option ℕ)) (free : List ℕ) (most : ℕ) → IsKept slab places free most → count_by is_some (seen slab places) < length (seen slab places) → 0 < length free
some-free slab places free most kept fewer = omega (arith, kept.all, seen-count slab places kept.there, length-map places (found slab), fewer)

-- no lease under a key, and none put there
pub set-nothing : (slots : List (Option Lease)) (key : ℕ) → get_or slots key None ≡ None → slots ≡ set slots key None
set-nothing slots key nothing = sym (set-get_or slots key None) ∙ ap (set slots key) nothing

-- ---- at first

pub seen-none : (slab : Slab Lease) (n : ℕ) → seen slab (replicate n None) ≡ replicate n None
seen-none slab zero = refl
seen-none slab (suc n) = ap (λ slots. None ∷ slots) (seen-none slab n)
