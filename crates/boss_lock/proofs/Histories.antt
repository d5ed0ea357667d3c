-- Lemmas on lists that begin one another.
use Rattle.std.proofs.Common.{◌≡◌, ◌⊎◌, inl, inr, ⊎_elim, ◌≤◌, List, [], ◌∷◌, ◌++◌, length, refl, sym, ap, ◌∙◌, arith, append_assoc, append-nil, length-append}
use mathlib.Core.List.{IsPrefix}
use Rattle.boss_lock.specs.Places.{longer, IsLonger}

module _ {E : Type 0} where
  pub prefix_self : (xs : List E) → IsPrefix xs xs
  prefix_self xs = ([], append-nil xs)

  pub prefix_more : (xs ys zs : List E) → IsPrefix xs ys → IsPrefix xs (ys ++ zs)
  prefix_more xs ys zs p = (p.0 ++ zs, sym (append_assoc xs p.0 zs) ∙ ap (λ ws. ws ++ zs) p.1)

  -- a beginning as long as the whole is the whole
  pub prefix_whole : (xs ys : List E) → IsPrefix xs ys → length ys ≤ length xs → xs ≡ ys
  prefix_whole [] [] p le = refl
  prefix_whole [] (y ∷ ys) p le = absurd (omega arith)
  prefix_whole (x ∷ xs) [] p le = let e = p.1 in absurd (cc)
  prefix_whole (x ∷ xs) (y ∷ ys) p le = let e = p.1 in let rest = prefix_whole xs ys (p.0, cc) (omega arith) in cc

  pub prefix_length : (xs ys : List E) → IsPrefix xs ys → length xs ≤ length ys
  prefix_length xs ys p = let e = length-append xs p.0 in let f = ap length p.1 in omega arith

  pub longer_nil : (xs : List E) → longer xs [] ≡ xs
  longer_nil [] = refl
  longer_nil (x ∷ xs) = refl

  pub longer_left : (xs ys : List E) → IsPrefix xs (longer xs ys)
  longer_left [] ys = (ys, refl)
  longer_left (x ∷ xs) [] = prefix_self (x ∷ xs)
  longer_left (x ∷ xs) (y ∷ ys) = let h = longer_left xs ys in (h.0, ap (λ ws. x ∷ ws) h.1)

  -- of two beginnings of one list
  pub longer_right : (xs ys zs : List E) → IsPrefix xs zs → IsPrefix ys zs → IsPrefix ys (longer xs ys)
  longer_right [] ys zs p q = prefix_self ys
  longer_right (x ∷ xs) [] zs p q = (x ∷ xs, refl)
  longer_right (x ∷ xs) (y ∷ ys) [] p q = let e = p.1 in absurd (cc)
  longer_right (x ∷ xs) (y ∷ ys) (z ∷ zs) p q =
      let e = p.1 in
      let f = q.1 in
      let h = longer_right xs ys zs (p.0, cc) (q.0, cc) in
      let g = h.1 in
      (h.0, cc)

  pub longer_before : (xs ys zs : List E) → IsPrefix xs zs → IsPrefix ys zs → IsPrefix (longer xs ys) zs
  longer_before [] ys zs p q = q
  longer_before (x ∷ xs) [] zs p q = p
  longer_before (x ∷ xs) (y ∷ ys) [] p q = let e = p.1 in absurd (cc)
  longer_before (x ∷ xs) (y ∷ ys) (z ∷ zs) p q =
      let e = p.1 in
      let f = q.1 in
      let h = longer_before xs ys zs (p.0, cc) (q.0, cc) in
      let g = h.1 in
      (h.0, cc)

  pub length_longer_left : (xs ys : List E) → length xs ≤ length (longer xs ys)
  length_longer_left [] ys = omega arith
  length_longer_left (x ∷ xs) [] = omega arith
  length_longer_left (x ∷ xs) (y ∷ ys) = let h = length_longer_left xs ys in omega arith

  pub length_longer_right : (xs ys : List E) → length ys ≤ length (longer xs ys)
  length_longer_right [] ys = omega arith
  length_longer_right (x ∷ xs) [] = omega arith
  length_longer_right (x ∷ xs) (y ∷ ys) = let h = length_longer_right xs ys in omega arith

  -- if ys begins a list that xs begins too, and is as long, it is the whole of it
  longer_one : (xs ys : List E) → IsPrefix ys (longer xs ys) → (longer xs ys ≡ xs) ⊎ (longer xs ys ≡ ys)
  longer_one [] ys q = inr refl
  longer_one (x ∷ xs) [] q = inl refl
  longer_one (x ∷ xs) (y ∷ ys) q =
      let e = q.1 in
      let heads : y ≡ x = cc in
      ⊎_elim (λ (h : longer xs ys ≡ xs). inl (ap (λ ws. x ∷ ws) h)) (λ (h : longer xs ys ≡ ys). inr (cc)) (longer_one xs ys (q.0, cc))

  -- of two beginnings of one list
  pub longer_is : (xs ys zs : List E) → IsPrefix xs zs → IsPrefix ys zs → IsLonger xs ys (longer xs ys)
  longer_is xs ys zs p q = let right = longer_right xs ys zs p q in (longer_one xs ys right, longer_left xs ys, right)
