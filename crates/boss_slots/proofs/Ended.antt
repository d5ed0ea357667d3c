-- Leases and reversions end slot by slot: what one slot that is taken up leaves of the whole.
use Rattle.std.proofs.Common.{◌≡◌, ◌≢◌, ℕ, ◌<◌, ◌≤◌, List, ◌++◌, length, set, get_or, Bool, true, false, Option, refl, ap, sym, ◌∙◌, subst, inl, inr, append_assoc, arith}
use Rattle.std.specs.Option.{option_to_list}
use Rattle.std.specs.List.{flat_map}
use Rattle.std.specs.List.Sorted.{IsPermutation}
use Rattle.std.proofs.lemmas.Bool.{cases_eq}
use Rattle.std.proofs.lemmas.List.{get_or-set_same, get_or-set_other, length-set}
use Rattle.std.proofs.lemmas.List.Sorted.{IsPermutation-refl, IsPermutation-sym, IsPermutation-trans, IsPermutation-append, IsPermutation-append_right, IsPermutation-append_left, IsPermutation-append_comm}
use Rattle.boss_model.specs.declared.state.Lease.{Lease}
use Rattle.boss_model.specs.declared.state.Pending.{Pending}
use Rattle.boss_booking.specs.Books.{Telling}
use Rattle.boss_slots.specs.Slots.{all, keep}
use Rattle.boss_slots.specs.Tables.{IsMoved, lease_at, pending_at}
use Rattle.boss_slots.specs.Ending.{IsEnding, dues}
use Rattle.boss_slots.specs.declared.tables.Tables.{Tables}
use Rattle.boss_slots.proofs.Gathers.{flat_map-append, permutation-crossed}
use Rattle.boss_slots.proofs.BySlot.{all-swapped}
use Rattle.boss_slots.proofs.Kept.{one-or-other}

-- ---- one part of what is told comes first

front-out : {Y : Type 0} (a x b : List Y) → IsPermutation (a ++ (x ++ b)) (x ++ (a ++ b))
front-out a x b =
    subst (λ zs. IsPermutation zs (x ++ (a ++ b))) (append_assoc a x b)
    (subst (λ zs. IsPermutation ((a ++ x) ++ b) zs) (append_assoc x a b) (IsPermutation-append_left b (a ++ x) (x ++ a) (IsPermutation-append_comm a x)))

parts-out : {Y : Type 0} (a x b c y d : List Y) → IsPermutation ((a ++ (x ++ b)) ++ (c ++ (y ++ d))) ((x ++ y) ++ ((a ++ b) ++ (c ++ d)))
parts-out a x b c y d =
    IsPermutation-trans ((a ++ (x ++ b)) ++ (c ++ (y ++ d))) ((x ++ (a ++ b)) ++ (y ++ (c ++ d))) ((x ++ y) ++ ((a ++ b) ++ (c ++ d)))
    (IsPermutation-append (a ++ (x ++ b)) (x ++ (a ++ b)) (c ++ (y ++ d)) (y ++ (c ++ d)) (front-out a x b) (front-out c y d))
    (permutation-crossed x (a ++ b) y (c ++ d))

told-first : {Y : Type 0} (w a x x' b c y y' d : List Y) → x ++ y ≡ w ++ (x' ++ y') → IsPermutation ((a ++ (x ++ b)) ++ (c ++ (y ++ d))) (w ++ ((a ++ (x' ++ b)) ++ (c ++ (y' ++ d))))
told-first w a x x' b c y y' d is =
    IsPermutation-trans ((a ++ (x ++ b)) ++ (c ++ (y ++ d))) ((x ++ y) ++ ((a ++ b) ++ (c ++ d))) (w ++ ((a ++ (x' ++ b)) ++ (c ++ (y' ++ d)))) (parts-out a x b c y d)
    (subst (λ zs. IsPermutation zs (w ++ ((a ++ (x' ++ b)) ++ (c ++ (y' ++ d))))) (sym (ap (λ zs. zs ++ ((a ++ b) ++ (c ++ d))) is ∙ append_assoc w (x' ++ y') ((a ++ b) ++ (c ++ d))))
    (IsPermutation-append_right w ((x' ++ y') ++ ((a ++ b) ++ (c ++ d))) ((a ++ (x' ++ b)) ++ (c ++ (y' ++ d)))
    (IsPermutation-sym ((a ++ (x' ++ b)) ++ (c ++ (y' ++ d))) ((x' ++ y') ++ ((a ++ b) ++ (c ++ d))) (parts-out a x' b c y' d))))

-- what is told of a slot
abbrev pub of_slot : {X : Type 0} → (X → List Telling) → Option X → List Telling
of_slot t o = flat_map t (option_to_list o)

flat_map-parts : {X : Type 0} (t : X → List Telling) (front : List X) (o : Option X) (back : List X) → flat_map t (front ++ (option_to_list o ++ back)) ≡ flat_map t front ++ (of_slot t o ++ flat_map t back)
flat_map-parts t front o back = flat_map-append t front (option_to_list o ++ back) ∙ ap (λ zs. flat_map t front ++ zs) (flat_map-append t (option_to_list o) back)

module _ (of_lease : Lease → List Telling) (of_pending : Pending → List Telling) (now after : Tables) (p q : ℕ) (lo : Option Lease) (po : Option Pending) (w : List Telling)
    (moved : IsMoved now after p q lo po) (within : p < length now.arrays.items) (low : 1 ≤ q) (high : q ≤ 16)
    (tells : of_slot of_lease (lease_at now p q) ++ of_slot of_pending (pending_at now p q) ≡ w ++ (of_slot of_lease lo ++ of_slot of_pending po)) where
  pub dues-moved : IsPermutation (dues of_lease of_pending now) (w ++ dues of_lease of_pending after)
  unfolding dues
  dues-moved =
      let leases = all-swapped (lease_at now) (lease_at after) (length now.arrays.items) p q within low high (λ a b differs. (moved.others a b differs).0) in
      let pending = all-swapped (pending_at now) (pending_at after) (length now.arrays.items) p q within low high (λ a b differs. (moved.others a b differs).1) in
      let points = moved.points in
      let one : flat_map of_lease (all (lease_at now) (length now.arrays.items)) ≡ flat_map of_lease leases.front ++ (of_slot of_lease (lease_at now p q) ++ flat_map of_lease leases.back) =
      ap (flat_map of_lease) leases.before ∙ flat_map-parts of_lease leases.front (lease_at now p q) leases.back in
      let two : flat_map of_pending (all (pending_at now) (length now.arrays.items)) ≡ flat_map of_pending pending.front ++ (of_slot of_pending (pending_at now p q) ++ flat_map of_pending pending.back) =
      ap (flat_map of_pending) pending.before ∙ flat_map-parts of_pending pending.front (pending_at now p q) pending.back in
      let one' : flat_map of_lease (all (lease_at after) (length after.arrays.items)) ≡ flat_map of_lease leases.front ++ (of_slot of_lease lo ++ flat_map of_lease leases.back) =
      ap (λ n. flat_map of_lease (all (lease_at after) n)) points ∙ ap (flat_map of_lease) leases.after ∙ flat_map-parts of_lease leases.front (lease_at after p q) leases.back
      ∙ ap (λ o. flat_map of_lease leases.front ++ (of_slot of_lease o ++ flat_map of_lease leases.back)) moved.lease in
      let two' : flat_map of_pending (all (pending_at after) (length after.arrays.items)) ≡ flat_map of_pending pending.front ++ (of_slot of_pending po ++ flat_map of_pending pending.back) =
      ap (λ n. flat_map of_pending (all (pending_at after) n)) points ∙ ap (flat_map of_pending) pending.after ∙ flat_map-parts of_pending pending.front (pending_at after p q) pending.back
      ∙ ap (λ o. flat_map of_pending pending.front ++ (of_slot of_pending o ++ flat_map of_pending pending.back)) moved.pending in
      rw (one, two, one', two') (told-first w (flat_map of_lease leases.front) (of_slot of_lease (lease_at now p q)) (of_slot of_lease lo) (flat_map of_lease leases.back)
      (flat_map of_pending pending.front) (of_slot of_pending (pending_at now p q)) (of_slot of_pending po) (flat_map of_pending pending.back) tells)

-- ---- a slot is taken up

module _ (stays : Lease → Bool) (left : Option Lease → Option Pending → Option Pending) (of_lease : Lease → List Telling) (of_pending : Pending → List Telling)
    (first now after : Tables) (said_before said : List Telling) (marks_before marks : List Bool) (p q : ℕ) (lo : Option Lease) (po : Option Pending) (w : List Telling)
    (e : IsEnding stays left of_lease of_pending first now said_before said marks_before marks)
    (moved : IsMoved now after p q lo po) (within : p < length now.arrays.items) (low : 1 ≤ q) (high : q ≤ 16) (flagged : length marks ≡ length now.arrays.items)
    (tells : of_slot of_lease (lease_at now p q) ++ of_slot of_pending (pending_at now p q) ≡ w ++ (of_slot of_lease lo ++ of_slot of_pending po))
    (stayed : keep stays lo ≡ keep stays (lease_at now p q)) (leaves : left lo po ≡ left (lease_at now p q) (pending_at now p q)) where
  still-leases : (a b : ℕ) → keep stays (lease_at after a b) ≡ keep stays (lease_at first a b)
  still-leases a b = elim (one-or-other p q a b) [
    | inl (one, two) ↦ ap (λ n. keep stays (lease_at after n b)) one ∙ ap (λ n. keep stays (lease_at after p n)) two ∙ ap (keep stays) moved.lease ∙ stayed
        ∙ sym (ap (λ n. keep stays (lease_at now n b)) one ∙ ap (λ n. keep stays (lease_at now p n)) two) ∙ e.leases a b
    | inr differs ↦ ap (keep stays) (moved.others a b differs).0 ∙ e.leases a b
  ]

  still-pending : (a b : ℕ) → left (lease_at after a b) (pending_at after a b) ≡ left (lease_at first a b) (pending_at first a b)
  still-pending a b = elim (one-or-other p q a b) [
    | inl (one, two) ↦ ap (λ n. left (lease_at after n b) (pending_at after n b)) one ∙ ap (λ n. left (lease_at after p n) (pending_at after p n)) two
        ∙ ap (λ o. left o (pending_at after p q)) moved.lease ∙ ap (left lo) moved.pending ∙ leaves
        ∙ sym (ap (λ n. left (lease_at now n b) (pending_at now n b)) one ∙ ap (λ n. left (lease_at now p n) (pending_at now p n)) two) ∙ e.pending a b
    | inr differs ↦ ap (λ o. left o (pending_at after a b)) (moved.others a b differs).0 ∙ ap (left (lease_at now a b)) (moved.others a b differs).1 ∙ e.pending a b
  ]

  -- a point whose flag is not set is another one
  pub unset : (a : ℕ) → get_or (set marks p true) a false ≡ false → (a ≢ p) × (get_or marks a false ≡ false)
  unset a none = elim (cases_eq a p) [
    | inl is ↦ let here : get_or (set marks p true) p false ≡ true = get_or-set_same marks p true false (omega arith) in let there : get_or (set marks p true) a false ≡ true = ap (λ n. get_or (set marks p true) n false) is ∙ here in absurd (cc)
    | inr differs ↦ (differs, sym (get_or-set_other marks p a true false differs) ∙ none)
  ]

  still-set : (a : ℕ) → get_or marks a false ≡ true → get_or (set marks p true) a false ≡ true
  still-set a there = elim (cases_eq a p) [
    | inl is ↦ ap (λ n. get_or (set marks p true) n false) is ∙ get_or-set_same marks p true false (omega arith)
    | inr differs ↦ get_or-set_other marks p a true false differs ∙ there
  ]

  pub ending-more : IsEnding stays left of_lease of_pending first after said_before (said ++ w) marks_before (set marks p true)
  ending-more = record {
    points = moved.points ∙ e.points;
    leases = still-leases;
    pending = still-pending;
    told = IsPermutation-trans (said_before ++ dues of_lease of_pending first) (said ++ dues of_lease of_pending now) ((said ++ w) ++ dues of_lease of_pending after) e.told
        (subst (λ zs. IsPermutation (said ++ dues of_lease of_pending now) zs) (sym (append_assoc said w (dues of_lease of_pending after)))
        (IsPermutation-append_right said (dues of_lease of_pending now) (w ++ dues of_lease of_pending after) (dues-moved of_lease of_pending now after p q lo po w moved within low high tells)));
    flags = length-set marks p true ∙ e.flags;
    touched = λ a there. still-set a (e.touched a there);
    untouched = λ a none b. let was = unset a none in let before = e.untouched a was.1 b in let same = moved.others a b (λ is _. was.0 is) in (same.0 ∙ before.0, same.1 ∙ before.1);
  }

-- ---- at first, and at last

pub ending-begins : (stays : Lease → Bool) (left : Option Lease → Option Pending → Option Pending) (of_lease : Lease → List Telling) (of_pending : Pending → List Telling) (first : Tables) (said : List Telling) (marks : List Bool) →
    IsEnding stays left of_lease of_pending first first said said marks marks
ending-begins stays left of_lease of_pending first said marks = record {
  points = refl;
  leases = λ p q. refl;
  pending = λ p q. refl;
  told = IsPermutation-refl (said ++ dues of_lease of_pending first);
  flags = refl;
  touched = λ p there. there;
  untouched = λ p none q. (refl, refl);
}

pub moved-moved : (one two three : Tables) (p q : ℕ) (lo lo' : Option Lease) (po po' : Option Pending) → IsMoved one two p q lo po → IsMoved two three p q lo' po' → IsMoved one three p q lo' po'
moved-moved one two three p q lo lo' po po' before after = record {
  lease = after.lease;
  pending = after.pending;
  others = λ a b differs. let x = before.others a b differs in let y = after.others a b differs in (y.0 ∙ x.0, y.1 ∙ x.1);
  points = after.points ∙ before.points;
}
