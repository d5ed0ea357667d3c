-- Lemmas on the entries at a seat's places, for those who keep account of what a seat made.
use Rattle.std.proofs.Common.{◌≡◌, ℕ, zero, suc, ◌+◌, ◌<◌, List, [], ◌∷◌, ◌++◌, length, nat_lt, if◌then◌else◌, true, false, refl, sym, ap, ◌∙◌, subst, arith, append_assoc, length-append}
use mathlib.Core.List.{IsPrefix}
use Rattle.boss_lock.specs.Places.{numbers_from, AllBelow, put_in, woven, entry_at, entries_at, IsLonger, total}

module _ {E : Type 0} where
  entry_at_front : (xs ys : List E) (k : ℕ) → k < length xs → entry_at (xs ++ ys) k ≡ entry_at xs k
  entry_at_front [] ys k l = absurd (omega arith)
  entry_at_front (x ∷ xs) ys zero l = refl
  entry_at_front (x ∷ xs) ys (suc k) l = entry_at_front xs ys k (omega arith)

  entries_at_front : (xs ys : List E) (ks : List ℕ) → AllBelow (length xs) ks → entries_at (xs ++ ys) ks ≡ entries_at xs ks
  entries_at_front xs ys [] h = refl
  entries_at_front xs ys (k ∷ ks) h = λ i. entry_at_front xs ys k h.0 i ++ entries_at_front xs ys ks h.1 i

  -- what stands at places of a beginning stays there
  pub entries_at_more : (xs ys : List E) (ks : List ℕ) → IsPrefix xs ys → AllBelow (length xs) ks → entries_at ys ks ≡ entries_at xs ks
  entries_at_more xs ys ks p h = subst (λ zs. entries_at zs ks ≡ entries_at xs ks) p.1 (entries_at_front xs p.0 ks h)

  pub entries_at_append : (xs : List E) (ks js : List ℕ) → entries_at xs (ks ++ js) ≡ entries_at xs ks ++ entries_at xs js
  entries_at_append xs [] js = refl
  entries_at_append xs (k ∷ ks) js = ap (λ zs. entry_at xs k ++ zs) (entries_at_append xs ks js) ∙ sym (append_assoc (entry_at xs k) (entries_at xs ks) (entries_at xs js))

  entry_at_end : (xs : List E) (y : E) (ys : List E) → entry_at (xs ++ y ∷ ys) (length xs) ≡ y ∷ []
  entry_at_end [] y ys = refl
  entry_at_end (x ∷ xs) y ys = entry_at_end xs y ys

  -- the entries behind a beginning
  pub entries_at_end : (xs ys : List E) → entries_at (xs ++ ys) (numbers_from (length xs) (length ys)) ≡ ys
  entries_at_end xs [] = refl
  entries_at_end xs (y ∷ ys) =
      let longer : (xs ++ y ∷ []) ++ ys ≡ xs ++ y ∷ ys = append_assoc xs (y ∷ []) ys in
      let count : length (xs ++ y ∷ []) ≡ suc (length xs) = omega (arith, length-append xs (y ∷ [])) in
      let rest : entries_at (xs ++ y ∷ ys) (numbers_from (suc (length xs)) (length ys)) ≡ ys =
      subst (λ (p : List E × ℕ). entries_at p.0 (numbers_from p.1 (length ys)) ≡ ys) (λ i. (longer i, count i)) (entries_at_end (xs ++ y ∷ []) ys) in
      λ i. entry_at_end xs y ys i ++ rest i

  -- A seat's own entries after a turn: those before, and those that were made
  pub entries_after_turn : (seen found made : List E) (ks : List ℕ) → IsPrefix seen found → AllBelow (length seen) ks
      → entries_at (found ++ made) (ks ++ numbers_from (length found) (length made)) ≡ entries_at seen ks ++ made
  entries_after_turn seen found made ks p h =
      entries_at_append (found ++ made) ks (numbers_from (length found) (length made))
      ∙ (λ i. entries_at_more seen (found ++ made) ks (p.0 ++ made, sym (append_assoc seen p.0 made) ∙ ap (λ zs. zs ++ made) p.1) h i ++ entries_at_end found made i)

  -- A seat with every place has made every entry
  pub entries_at_all : (xs : List E) → entries_at xs (numbers_from 0 (length xs)) ≡ xs
  entries_at_all xs = entries_at_end [] xs

  pub total_append : (f : E → ℕ) (xs ys : List E) → total f (xs ++ ys) ≡ total f xs + total f ys
  total_append f [] ys = omega arith
  total_append f (x ∷ xs) ys = let h = total_append f xs ys in omega arith

  total_put_in : (f : E → ℕ) (xs : List E) (k : ℕ) (js : List ℕ) → total f (entries_at xs (put_in k js)) ≡ total f (entry_at xs k) + total f (entries_at xs js)
  total_put_in f xs k [] = let h = total_append f (entry_at xs k) [] in omega arith
  total_put_in f xs k (j ∷ js) = elim (nat_lt k j) as (λ b. total f (entries_at xs (if b then k ∷ j ∷ js else j ∷ put_in k js)) ≡ total f (entry_at xs k) + total f (entry_at xs j ++ entries_at xs js)) [
    | true ↦ total_append f (entry_at xs k) (entry_at xs j ++ entries_at xs js)
    | false ↦ let h = total_put_in f xs k js in
        let a = total_append f (entry_at xs j) (entries_at xs (put_in k js)) in
        let b = total_append f (entry_at xs j) (entries_at xs js) in
        omega arith
  ]

  -- A seat that has taken in another: whatever its entries are weighed by, they weigh as much as those of both
  pub total_woven : (f : E → ℕ) (xs : List E) (ks js : List ℕ) → total f (entries_at xs (woven ks js)) ≡ total f (entries_at xs ks) + total f (entries_at xs js)
  total_woven f xs [] js = omega arith
  total_woven f xs (k ∷ ks) js =
      let h = total_woven f xs ks js in
      let p = total_put_in f xs k (woven ks js) in
      let a = total_append f (entry_at xs k) (entries_at xs ks) in
      omega arith

  -- the same where each has seen another beginning of the history
  pub total_joined : (f : E → ℕ) (xs ys zs : List E) (ks js : List ℕ) → IsLonger xs ys zs → AllBelow (length xs) ks → AllBelow (length ys) js
      → total f (entries_at zs (woven ks js)) ≡ total f (entries_at xs ks) + total f (entries_at ys js)
  total_joined f xs ys zs ks js longer inside inside_too =
      total_woven f zs ks js ∙ (λ i. total f (entries_at_more xs zs ks longer.1 inside i) + total f (entries_at_more ys zs js longer.2 inside_too i))
