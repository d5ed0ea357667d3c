-- Where plain text ends, seen several bytes at a time through the mask of those that end it.
use Rattle.std.proofs.Common.{◌≡◌, ℕ, ◌+◌, ◌-◌, ◌%◌, ◌^◌, ◌<◌, ◌≤◌, ltb, eqb, Bool, true, false, cond, not, ◌||◌, List, [], ◌∷◌, map, length, drop, get_or, replicate, bit_or, inl, inr, refl, sym, ap, ap₂, ◌∙◌, arith}
use Rattle.std.proofs.lemmas.Bool.{cases_lt}
use Rattle.std.proofs.lemmas.List.{length-map, get_or-take, get_or-drop}
use Rattle.std.proofs.lemmas.List.Sums.{prefix_len-le-length, prefix_len_passes}
use Rattle.std.proofs.lemmas.Simd.{zip2_splat, zip2_splat_left, zip2_of_maps, mask_l-mod, trailing_mask_l, none_from_empty_mask, length-chunk}
use Rattle.std.specs.Str.{IsAscii}
use lib.Count.{count_trailing_zeros}
use lib.Lanes.{zip2, chunk, mask_l, top}
use Rattle.json.specs.Run.{is_stop}
use Rattle.json.specs.Written.{PlainBetween}
use Rattle.boss_json.specs.Compact.{ends_plain, CompactBetween}

-- what the comparisons of a vector give for one byte
abbrev hit : ℕ → ℕ → ℕ
hit a b = cond (eqb a b) 255 0

abbrev below : ℕ → ℕ → ℕ
below a b = cond (ltb a b) 255 0

any_of_three : (a b c : Bool) → bit_or (bit_or (cond a 255 0) (cond b 255 0)) (cond c 255 0) ≡ cond (a || b || c) 255 0
any_of_three true true true = refl
any_of_three true true false = refl
any_of_three true false true = refl
any_of_three true false false = refl
any_of_three false true true = refl
any_of_three false true false = refl
any_of_three false false true = refl
any_of_three false false false = refl

either : (a b : Bool) → top 7 (bit_or (cond a 255 0) (cond b 255 0)) ≡ (a || b)
either true true = refl
either true false = refl
either false true = refl
either false false = refl

one_byte : (x : ℕ) → top 7 (bit_or (bit_or (bit_or (hit x 34) (hit x 92)) (below x 32)) (below 127 x)) ≡ ends_plain x
one_byte x = ap (λ stop. top 7 (bit_or stop (below 127 x))) (any_of_three (eqb x 34) (eqb x 92) (ltb x 32)) ∙ either (is_stop x) (ltb 127 x)

each_byte : (xs : List ℕ) → map (top 7) (map (λ x. bit_or (bit_or (bit_or (hit x 34) (hit x 92)) (below x 32)) (below 127 x)) xs) ≡ map ends_plain xs
each_byte [] = refl
each_byte (x ∷ xs) = ap₂ (λ b bs. b ∷ bs) (one_byte x) (each_byte xs)

pub mask-ends_plain : (xs : List ℕ) (n : ℕ) → length xs ≡ n → n ≤ 64
    → mask_l (map (top 7) (zip2 bit_or (zip2 bit_or (zip2 bit_or (zip2 hit xs (replicate n 34)) (zip2 hit xs (replicate n 92))) (zip2 below xs (replicate n 32))) (zip2 below (replicate n 127) xs))) % 2 ^ 64
    ≡ mask_l (map ends_plain xs)
mask-ends_plain xs n long few =
    let quotes_or_backslashes = zip2_of_maps bit_or (λ x. hit x 34) (λ x. hit x 92) xs (zip2_splat hit xs n 34 long) (zip2_splat hit xs n 92 long) in
    let stops = zip2_of_maps bit_or (λ x. bit_or (hit x 34) (hit x 92)) (λ x. below x 32) xs quotes_or_backslashes (zip2_splat below xs n 32 long) in
    let all = zip2_of_maps bit_or (λ x. bit_or (bit_or (hit x 34) (hit x 92)) (below x 32)) (λ x. below 127 x) xs stops (zip2_splat_left below 127 n xs long) in
    ap (λ l. mask_l (map (top 7) l) % 2 ^ 64) all ∙ ap (λ l. mask_l l % 2 ^ 64) (each_byte xs) ∙ mask_l-mod (map ends_plain xs) 64 (omega (arith, length-map xs ends_plain))

none_of_not : (b : Bool) → not b ≡ true → b ≡ false
none_of_not true is = sym is
none_of_not false is = refl

pub plain_to_stop : (d : List ℕ) (i n : ℕ) → i + n ≤ length d → n ≤ 64 → 0 < mask_l (map ends_plain (chunk i n d)) → CompactBetween d i (i + count_trailing_zeros 64 (mask_l (map ends_plain (chunk i n d))))
plain_to_stop d i n room few some k after before =
    let size = length-chunk i n d room in
    let count = trailing_mask_l ends_plain 64 (chunk i n d) (omega arith) some in
    let there : i + (k - i) ≡ k = omega arith in
    let at = get_or-take n (drop i d) (k - i) 0 (omega (arith, prefix_len-le-length (λ x. not (ends_plain x)) (chunk i n d))) ∙ get_or-drop i d (k - i) 0 ∙ ap (λ j. get_or d j 0) there in
    none_of_not (ends_plain (get_or d k 0)) (ap (λ x. not (ends_plain x)) (sym at) ∙ prefix_len_passes (λ x. not (ends_plain x)) (chunk i n d) (k - i) 0 (omega arith))

pub plain_through : (d : List ℕ) (i n : ℕ) → i + n ≤ length d → mask_l (map ends_plain (chunk i n d)) ≡ 0 → CompactBetween d i (i + n)
plain_through d i n room none k after before = none_from_empty_mask ends_plain d i n 0 room none k after before

pub plain_on : (d : List ℕ) (i j k : ℕ) → CompactBetween d i j → CompactBetween d j k → CompactBetween d i k
plain_on d i j k first second at after before = elim (cases_lt at j) [ inl early ↦ first at after early | inr late ↦ second at late before ]

-- ---- what a byte is that does not end plain text

no_stop : (stop large : Bool) → (stop || large) ≡ false → not stop ≡ true
no_stop true large none = sym none
no_stop false large none = refl

pub plain_of : (d : List ℕ) (i j : ℕ) → CompactBetween d i j → PlainBetween d i j
plain_of d i j plain k after before = no_stop (is_stop (get_or d k 0)) (ltb 127 (get_or d k 0)) (plain k after before)

small : (x : ℕ) (stop : Bool) → (stop || ltb 127 x) ≡ false → x < 128
small x true none = absurd (let clash : true ≡ false = none in cc)
small x false none = elim (cases_lt 127 x) [ inl large ↦ absurd (search (none, large, arith)) | inr few ↦ omega arith ]

-- a string in its quotes is ASCII, if what follows it is
pub ascii_string : (d : List ℕ) (i j : ℕ) → i + 1 ≤ j → get_or d i 0 ≡ 34 → get_or d j 0 ≡ 34 → CompactBetween d (i + 1) j → IsAscii (drop (j + 1) d) → IsAscii (drop i d)
ascii_string d i j le opening closing plain rest k =
    let here : get_or (drop i d) k 0 ≡ get_or d (i + k) 0 = get_or-drop i d k 0 in
    let at : (m : ℕ) → i ≤ m → get_or d m 0 < 128 = λ m from.
    elim (cases_lt m (i + 1)) [
      | inl first ↦ (let same : m ≡ i = omega arith in omega (arith, ap (λ n. get_or d n 0) same, opening))
      | inr behind ↦ elim (cases_lt m j) [
        | inl inside ↦ small (get_or d m 0) (is_stop (get_or d m 0)) (plain m behind inside)
        | inr past ↦ elim (cases_lt m (j + 1)) [
          | inl last ↦ (let same : m ≡ j = omega arith in omega (arith, ap (λ n. get_or d n 0) same, closing))
          | inr after ↦ (
              let there : j + 1 + (m - (j + 1)) ≡ m = omega arith in
              omega (arith, rest (m - (j + 1)), get_or-drop (j + 1) d (m - (j + 1)) 0, ap (λ n. get_or d n 0) there))
        ]
      ]
    ] in
    omega (arith, here, at (i + k) (omega arith))
