-- What stands before the first blank.
use Rattle.std.proofs.Common.{◌≡◌, ◌≢◌, ℕ, zero, suc, ◌<◌, List, [], ◌∷◌, ◌++◌, length, take, drop, slice_index, refl, sym, ap, subst, arith}
use Rattle.std.specs.Char.{digit_value}
use Rattle.std.specs.Fmt.{decimal}
use Rattle.std.specs.Prelude.{slice_index_or}
use Rattle.std.specs.Str.Parse.{AllDigits}
use Rattle.std.proofs.lemmas.Fmt.{decimal_is_IsNumeral}
use Rattle.def_feed.specs.Items.{IsNumber}
use Rattle.boss_feed_lines.specs.Told.{NoBlank}

pub head-of : (x y : ℕ) (xs ys : List ℕ) → x ∷ xs ≡ y ∷ ys → x ≡ y
head-of x y xs ys is = ap (λ zs. slice_index_or zs 0 0) is

pub tail-of : (x y : ℕ) (xs ys : List ℕ) → x ∷ xs ≡ y ∷ ys → xs ≡ ys
tail-of x y xs ys is = ap (drop 1) is

no-digit : digit_value 32 < 10 → ⊥
no-digit small = omega arith

digits-no-blank : (ds : List ℕ) → AllDigits 10 ds → NoBlank ds
digits-no-blank [] all = tt
digits-no-blank (d ∷ ds) all = (λ is. no-digit (subst (λ c. digit_value c < 10) is all.0), digits-no-blank ds all.1)

pub number-no-blank : (n : ℕ) → IsNumber n → NoBlank (decimal n)
number-no-blank n small = digits-no-blank (decimal n) (decimal_is_IsNumeral n small).0.1

-- the word before the first blank, and what stands behind it
pub same-cut : (ds es xs ys : List ℕ) → NoBlank ds → NoBlank es → ds ++ 32 ∷ xs ≡ es ++ 32 ∷ ys → (ds ≡ es) × (xs ≡ ys)
same-cut [] [] xs ys ones others is = (refl, tail-of 32 32 xs ys is)
same-cut [] (e ∷ es) xs ys ones others is = absurd (others.0 (sym (head-of 32 e xs (es ++ 32 ∷ ys) is)))
same-cut (d ∷ ds) [] xs ys ones others is = absurd (ones.0 (head-of d 32 (ds ++ 32 ∷ xs) ys is))
same-cut (d ∷ ds) (e ∷ es) xs ys ones others is =
    let more = same-cut ds es xs ys ones.1 others.1 (tail-of d e (ds ++ 32 ∷ xs) (es ++ 32 ∷ ys) is) in
    let first : d ≡ e = head-of d e (ds ++ 32 ∷ xs) (es ++ 32 ∷ ys) is in
    (λ i. first i ∷ more.0 i, more.1)

-- ---- by places

pub blank-at : (word rest : List ℕ) → slice_index (word ++ 32 ∷ rest) (length word) ≡ 32
blank-at [] rest = refl
blank-at (d ∷ word) rest = blank-at word rest

pub blank-within : (word rest : List ℕ) → length word < length (word ++ 32 ∷ rest)
blank-within [] rest = omega arith
blank-within (d ∷ word) rest = let more = blank-within word rest in omega arith

-- no blank stands before this place
pub no-blank-before : (place : ℕ) (text : List ℕ) → ((k : ℕ) → k < place → slice_index text k ≢ 32) → NoBlank (take place text)
no-blank-before zero text before = tt
no-blank-before (suc place) [] before = tt
no-blank-before (suc place) (d ∷ text) before = (before 0 (omega arith), no-blank-before place text (λ k low. before (suc k) (omega arith)))

pub split-at : (place : ℕ) (text : List ℕ) → place < length text → slice_index text place ≡ 32 → text ≡ take place text ++ 32 ∷ drop (suc place) text
split-at place [] within is = absurd (omega arith)
split-at zero (d ∷ text) within is = ap (λ (x : ℕ). x ∷ text) is
split-at (suc place) (d ∷ text) within is = ap (λ (xs : List ℕ). d ∷ xs) (split-at place text (omega arith) is)
