-- Bytes that are as many differ where an end of theirs does, and one or two are nothing but their ends.
use Rattle.std.proofs.Common.{◌≡◌, ℕ, ◌-◌, ◌<◌, ◌≤◌, true, false, List, [], ◌∷◌, length, get_or, bytes_eq, inl, inr, refl, ap, ap₂, arith}
use Rattle.std.proofs.lemmas.Bool.{cases_Bool}
use Rattle.std.proofs.lemmas.List.{ext_get_or}
use Rattle.std.proofs.lemmas.Slice.Eq.{bytes_eq-Decides}

pub ends_differ : (xs ys : List ℕ) (k : ℕ) → (get_or xs k 0 ≡ get_or ys k 0 → ⊥) → bytes_eq xs ys ≡ false
ends_differ xs ys k differ =
    elim (cases_Bool (bytes_eq xs ys)) [
      | inl is ↦ absurd (differ (ap (λ zs. get_or zs k 0) ((bytes_eq-Decides xs ys).0 is)))
      | inr is_not ↦ is_not
    ]

same : (xs ys : List ℕ) → length xs ≡ length ys → length xs ≤ 2 → get_or xs 0 0 ≡ get_or ys 0 0 → get_or xs (length xs - 1) 0 ≡ get_or ys (length xs - 1) 0 → xs ≡ ys
same [] [] len few first last = refl
same [] (y ∷ ys) len few first last = absurd (omega (arith, len))
same (x ∷ xs) [] len few first last = absurd (omega (arith, len))
same (x ∷ []) (y ∷ []) len few first last = ap (λ z. z ∷ []) first
same (x ∷ []) (y ∷ z ∷ ys) len few first last = absurd (omega (arith, len))
same (x ∷ z ∷ xs) (y ∷ []) len few first last = absurd (omega (arith, len))
same (x ∷ v ∷ []) (y ∷ w ∷ []) len few first last = ap₂ (λ a b. a ∷ b ∷ []) first last
same (x ∷ v ∷ []) (y ∷ w ∷ z ∷ ys) len few first last = absurd (omega (arith, len))
same (x ∷ v ∷ z ∷ xs) (y ∷ w ∷ ys) len few first last = absurd (omega (arith, few))

pub ends_same : (xs ys : List ℕ) → length xs ≡ length ys → length xs ≤ 2 → get_or xs 0 0 ≡ get_or ys 0 0 → get_or xs (length xs - 1) 0 ≡ get_or ys (length xs - 1) 0 → bytes_eq xs ys ≡ true
ends_same xs ys len few first last = (bytes_eq-Decides xs ys).1 (same xs ys len few first last)

pub same_throughout : (xs ys : List ℕ) → length xs ≡ length ys → ((k : ℕ) → k < length ys → get_or xs k 0 ≡ get_or ys k 0) → bytes_eq xs ys ≡ true
same_throughout xs ys len each = (bytes_eq-Decides xs ys).1 (ext_get_or 0 xs ys len (λ k within. each k (omega (arith, within, len))))
