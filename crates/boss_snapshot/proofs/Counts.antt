-- The three numbers before a state, as they are spelled.
use Rattle.std.proofs.Common.{◌≡◌, ℕ, ◌+◌, ◌≤◌, inl, inr, List, ◌++◌, length, take, drop, refl, sym, ap, subst, ◌∙◌, arith}
use Rattle.std.specs.Int.{w64, from_be_bytes}
use Rattle.std.proofs.lemmas.Bool.{cases_lt}
use Rattle.std.proofs.lemmas.List.{take_all, take-append-drop, length-take, length-drop, get_or-drop, get_or-take, get_or_past, drop-drop, drop-take, take-take}
use Rattle.std.proofs.lemmas.Nat.{be_bytes_8}
use Rattle.def_bytes.specs.Exact.{IsBytes}
use Rattle.def_bytes.specs.Fields.{number_text}
use Rattle.def_bytes.proofs.Exact.{wide64}
use Rattle.def_log.specs.Kinds.{generation_of}
use Rattle.boss_snapshot.specs.Fronts.{events_of, HasCounts}

bytes_drop : (n : ℕ) (bytes : List ℕ) → IsBytes bytes → IsBytes (drop n bytes)
bytes_drop n bytes are i = rw get_or-drop (are (n + i))

bytes_take : (n : ℕ) (bytes : List ℕ) → IsBytes bytes → IsBytes (take n bytes)
bytes_take n bytes are i =
    elim (cases_lt i n) [
      | inl lt ↦ rw (get_or-take n bytes i 0 lt) (are i)
      | inr le ↦ rw (get_or_past (take n bytes) i 0 (omega (arith, length-take n bytes))) (omega arith)
    ]

word : (l : List ℕ) → IsBytes l → 8 ≤ length l → number_text w64 (from_be_bytes w64 (take 8 l)) ≡ take 8 l
unfolding number_text
word l are long = be_bytes_8 (take 8 l) (from_be_bytes w64 (take 8 l)) (omega (arith, long, length-take 8 l)) (bytes_take 8 l are) refl

-- a number and what is behind it
number_first : (l : List ℕ) → IsBytes l → 8 ≤ length l → number_text w64 (from_be_bytes w64 (take 8 l)) ++ drop 8 l ≡ l
number_first l are long = ap (λ t. t ++ drop 8 l) (word l are long) ∙ take-append-drop 8 l

three_numbers : (l : List ℕ) → IsBytes l → length l ≡ 24 → number_text w64 (from_be_bytes w64 (take 8 l))
    ++ (number_text w64 (from_be_bytes w64 (take 8 (drop 8 l))) ++ number_text w64 (from_be_bytes w64 (take 8 (drop 16 l)))) ≡ l
three_numbers l are long =
    let some : length (drop 8 l) ≡ 16 = omega (arith, long, length-drop 8 l) in
    let few : length (drop 16 l) ≡ 8 = omega (arith, long, length-drop 16 l) in
    let last : number_text w64 (from_be_bytes w64 (take 8 (drop 16 l))) ≡ drop 8 (drop 8 l) =
    word (drop 16 l) (bytes_drop 16 l are) (omega (arith, few)) ∙ take_all 8 (drop 16 l) (omega (arith, few)) ∙ sym (drop-drop 8 8 l) in
    ap (λ t. number_text w64 (from_be_bytes w64 (take 8 l)) ++ (number_text w64 (from_be_bytes w64 (take 8 (drop 8 l))) ++ t)) last
    ∙ ap (λ t. number_text w64 (from_be_bytes w64 (take 8 l)) ++ t) (number_first (drop 8 l) (bytes_drop 8 l are) (omega (arith, some)))
    ∙ number_first l are (omega (arith, long))

module _ (bytes : List ℕ) where
  first_is : take 8 (take 24 (drop 41 bytes)) ≡ take 8 (drop 41 bytes)
  first_is = take-take 8 24 (drop 41 bytes) (omega arith)

  second_is : take 8 (drop 8 (take 24 (drop 41 bytes))) ≡ take 8 (drop 49 bytes)
  second_is = ap (take 8) (drop-take 8 16 (drop 41 bytes)) ∙ take-take 8 16 (drop 8 (drop 41 bytes)) (omega arith) ∙ ap (take 8) (drop-drop 8 41 bytes)

  third_is : take 8 (drop 16 (take 24 (drop 41 bytes))) ≡ take 8 (drop 57 bytes)
  third_is = ap (take 8) (drop-take 16 8 (drop 41 bytes)) ∙ take-take 8 8 (drop 16 (drop 41 bytes)) (omega arith) ∙ ap (take 8) (drop-drop 16 41 bytes)

  -- what was read of them are bytes
  pub has_counts : (head : List ℕ) → head ≡ take 65 bytes → IsBytes head → 65 ≤ length bytes → HasCounts bytes
  has_counts head is are long =
      let same : take 24 (drop 41 head) ≡ take 24 (drop 41 bytes) =
      ap (λ l. take 24 (drop 41 l)) is ∙ ap (take 24) (drop-take 41 24 bytes) ∙ take-take 24 24 (drop 41 bytes) (omega arith) in
      let fine : IsBytes (take 24 (drop 41 bytes)) = subst IsBytes same (bytes_take 24 (drop 41 head) (bytes_drop 41 head are)) in
      let all : length (take 24 (drop 41 bytes)) ≡ 24 = omega (arith, long, length-take 24 (drop 41 bytes), length-drop 41 bytes) in
      let eight : IsBytes (take 8 (drop 41 bytes)) = subst IsBytes first_is (bytes_take 8 (take 24 (drop 41 bytes)) fine) in
      record {
        spelled = sym (three_numbers (take 24 (drop 41 bytes)) fine all)
            ∙ ap (λ t. number_text w64 (from_be_bytes w64 t) ++ (number_text w64 (from_be_bytes w64 (take 8 (drop 8 (take 24 (drop 41 bytes)))))
            ++ number_text w64 (from_be_bytes w64 (take 8 (drop 16 (take 24 (drop 41 bytes))))))) first_is
            ∙ ap (λ t. number_text w64 (generation_of bytes) ++ (number_text w64 (from_be_bytes w64 t)
            ++ number_text w64 (from_be_bytes w64 (take 8 (drop 16 (take 24 (drop 41 bytes))))))) second_is
            ∙ ap (λ t. number_text w64 (generation_of bytes) ++ (number_text w64 (events_of bytes) ++ number_text w64 (from_be_bytes w64 t))) third_is;
        counted = wide64.below (take 8 (drop 41 bytes)) eight;
      }
