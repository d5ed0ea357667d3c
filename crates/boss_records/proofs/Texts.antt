-- Texts that are written one by one are the text of the list.
use Rattle.std.proofs.Common.{◌≡◌, ℕ, zero, suc, ◌+◌, ◌*◌, ◌<◌, ◌≤◌, Bool, true, List, [], ◌∷◌, ◌++◌, length, get_or, take, map, refl, sym, ap, ◌∙◌, append_assoc, append-nil, arith, length-append}
use Rattle.std.specs.Prelude.{flat_map}
use Rattle.std.specs.List.{list_all}
use Rattle.def_bytes.specs.Fields.{byte}
use Rattle.def_bytes.proofs.Spelling.{left_true, right_true}

module _ {A X : Type 0} (view : A → X) where
  pub fits_at : (fits : X → Bool) (xs : List A) (i : ℕ) (x : A) → i < length xs → x ≡ get_or xs i x → list_all fits (map view xs) ≡ true → fits (view x) ≡ true
  fits_at fits [] i x lt is all = absurd (omega (arith, lt))
  fits_at fits (y ∷ xs) zero x lt is all = ap (λ z. fits (view z)) is ∙ left_true (fits (view y)) (list_all fits (map view xs)) all
  fits_at fits (y ∷ xs) (suc i) x lt is all = fits_at fits xs i x (omega (arith, lt)) is (right_true (fits (view y)) (list_all fits (map view xs)) all)

  pub text_more : (text : X → List ℕ) (xs : List A) (i : ℕ) (x : A) → i < length xs → x ≡ get_or xs i x →
      flat_map text (map view (take (i + 1) xs)) ≡ flat_map text (map view (take i xs)) ++ text (view x)
  text_more text xs i x lt is = let next : i + 1 ≡ suc i = omega arith in ap (λ n. flat_map text (map view (take n xs))) next ∙ by xs i lt is
    where
      by : (xs : List A) (i : ℕ) → i < length xs → x ≡ get_or xs i x → flat_map text (map view (take (suc i) xs)) ≡ flat_map text (map view (take i xs)) ++ text (view x)
      by [] i lt is = absurd (omega (arith, lt))
      by (y ∷ xs) zero lt is = append-nil (text (view y)) ∙ ap (λ z. text (view z)) (sym is)
      by (y ∷ xs) (suc i) lt is = ap (λ t. text (view y) ++ t) (by xs i (omega (arith, lt)) is)
          ∙ sym (append_assoc (text (view y)) (flat_map text (map view (take i xs))) (text (view x)))

-- what was written of so many items, and one more
pub record Wrote (old new : List ℕ) (text : List ℕ) (room most : ℕ) : Type 0 where
  pub bytes : new ≡ old ++ text
  pub short : length new ≤ length old + room * most

pub writes_more : (old mid new done one : List ℕ) (i most : ℕ) → mid ≡ old ++ done → length mid ≤ length old + i * most →
    new ≡ mid ++ one → length one ≤ most → Wrote old new (done ++ one) (i + 1) most
writes_more old mid new done one i most is short more few = record {
  bytes = more ∙ ap (λ t. t ++ one) is ∙ append_assoc old done one;
  short = let long : length new ≡ length mid + length one = ap length more ∙ length-append mid one in
      let next : (i + 1) * most ≡ i * most + most = grind arith in
      omega (arith, long, short, few, next);
}

-- bytes are their own text
pub bytes_text : (bytes : List ℕ) → flat_map byte.text bytes ≡ bytes
bytes_text [] = refl
bytes_text (b ∷ bytes) = ap (λ t. b ∷ t) (bytes_text bytes)

pub name_text : (old mid new bytes written : List ℕ) → bytes ≡ written → mid ≡ old ++ length bytes ∷ [] → new ≡ mid ++ bytes →
    new ≡ old ++ length written ∷ flat_map byte.text written
name_text old mid new bytes written is head all =
    all ∙ ap (λ t. t ++ bytes) head ∙ append_assoc old (length bytes ∷ []) bytes
    ∙ ap (λ t. old ++ length t ∷ t) is ∙ ap (λ t. old ++ length written ∷ t) (sym (bytes_text written))
