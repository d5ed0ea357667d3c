-- A line is of one item at most: its word, its numbers and its bytes are told by what is written.
use Rattle.std.proofs.Common.{◌≡◌, ℕ, ◌<◌, List, [], ◌∷◌, ◌++◌, drop, Option, Some, None, refl, sym, ap, ◌∙◌, subst, arith}
use Rattle.std.specs.Char.{digit_value}
use Rattle.std.specs.Fmt.{decimal}
use Rattle.std.specs.Prelude.{slice_index_or, Result, Ok}
use Rattle.std.specs.Str.Parse.{AllDigits}
use Rattle.std.proofs.lemmas.Fmt.{decimal_injective, decimal_is_IsNumeral}
use Rattle.hex.specs.Hex.{decode_of, encode_lower}
use Rattle.hex.specs.declared.error.FromHexError.{FromHexError}
use Rattle.hex.proofs.HexLemmas.{decode_of-encode_lower}
use Rattle.def_bytes.specs.Exact.{IsBytes}
use Rattle.def_feed.specs.Items.{Item, StateLine, PartLine, EventLine, item_text, IsNumber, IsItem, Reads}

-- ---- what stands before a blank

head-of : (x y : ℕ) (xs ys : List ℕ) → x ∷ xs ≡ y ∷ ys → x ≡ y
head-of x y xs ys is = ap (λ zs. slice_index_or zs 0 0) is

tail-of : (x y : ℕ) (xs ys : List ℕ) → x ∷ xs ≡ y ∷ ys → xs ≡ ys
tail-of x y xs ys is = ap (drop 1) is

no-digit : digit_value 32 < 10 → ⊥
no-digit small = omega arith

-- the digits before the first blank
cut : (ds es xs ys : List ℕ) → AllDigits 10 ds → AllDigits 10 es → ds ++ 32 ∷ xs ≡ es ++ 32 ∷ ys → (ds ≡ es) × (xs ≡ ys)
cut [] [] xs ys ones others is = (refl, tail-of 32 32 xs ys is)
cut [] (e ∷ es) xs ys ones others is = absurd (no-digit (subst (λ c. digit_value c < 10) (sym (head-of 32 e xs (es ++ 32 ∷ ys) is)) others.0))
cut (d ∷ ds) [] xs ys ones others is = absurd (no-digit (subst (λ c. digit_value c < 10) (head-of d 32 (ds ++ 32 ∷ xs) ys is) ones.0))
cut (d ∷ ds) (e ∷ es) xs ys ones others is =
    let more = cut ds es xs ys ones.1 others.1 (tail-of d e (ds ++ 32 ∷ xs) (es ++ 32 ∷ ys) is) in
    let first : d ≡ e = head-of d e (ds ++ 32 ∷ xs) (es ++ 32 ∷ ys) is in
    (λ i. first i ∷ more.0 i, more.1)

-- a number, and what stands behind the blank after it
numbered : (m n : ℕ) (xs ys : List ℕ) → IsNumber m → IsNumber n → decimal m ++ 32 ∷ xs ≡ decimal n ++ 32 ∷ ys → (m ≡ n) × (xs ≡ ys)
numbered m n xs ys small also is =
    let both = cut (decimal m) (decimal n) xs ys (decimal_is_IsNumeral m small).0.1 (decimal_is_IsNumeral n also).0.1 is in
    (decimal_injective m n small also both.0, both.1)

-- ---- bytes

ok-is : (xs ys : List ℕ) → ◌≡◌ {A = Result (List ℕ) FromHexError} (Ok xs) (Ok ys) → xs ≡ ys
ok-is xs ys is = cc

same-bytes : (xs ys : List ℕ) → IsBytes xs → IsBytes ys → encode_lower xs ≡ encode_lower ys → xs ≡ ys
same-bytes xs ys are also is = ok-is xs ys (sym (decode_of-encode_lower xs are) ∙ ap decode_of is ∙ decode_of-encode_lower ys also)

-- ---- items

same-item : (one other : Item) → IsItem one → IsItem other → item_text one ≡ item_text other → one ≡ other
same-item (StateLine m s) (StateLine n t) is also same =
    let both = numbered m n (decimal s) (decimal t) is.0 also.0 (ap (drop 6) same) in
    let sizes : s ≡ t = decimal_injective s t is.1 also.1 both.1 in
    (λ i. StateLine (both.0 i) (sizes i))
same-item (StateLine m s) (PartLine b) is also same = let e : ◌≡◌ {A = ℕ} 115 112 = ap (λ xs. slice_index_or xs 0 0) same in absurd (omega arith)
same-item (StateLine m s) (EventLine n b) is also same = let e : ◌≡◌ {A = ℕ} 115 101 = ap (λ xs. slice_index_or xs 0 0) same in absurd (omega arith)
same-item (PartLine b) (StateLine n t) is also same = let e : ◌≡◌ {A = ℕ} 112 115 = ap (λ xs. slice_index_or xs 0 0) same in absurd (omega arith)
same-item (PartLine a) (PartLine b) is also same = ap PartLine (same-bytes a b is.0 also.0 (ap (drop 5) same))
same-item (PartLine b) (EventLine n c) is also same = let e : ◌≡◌ {A = ℕ} 112 101 = ap (λ xs. slice_index_or xs 0 0) same in absurd (omega arith)
same-item (EventLine m b) (StateLine n t) is also same = let e : ◌≡◌ {A = ℕ} 101 115 = ap (λ xs. slice_index_or xs 0 0) same in absurd (omega arith)
same-item (EventLine m b) (PartLine c) is also same = let e : ◌≡◌ {A = ℕ} 101 112 = ap (λ xs. slice_index_or xs 0 0) same in absurd (omega arith)
same-item (EventLine m a) (EventLine n b) is also same =
    let both = numbered m n (encode_lower a) (encode_lower b) is.0 also.0 (ap (drop 6) same) in
    let bytes : a ≡ b = same-bytes a b is.1.0 also.1.0 both.1 in
    (λ i. EventLine (both.0 i) (bytes i))

pub one-item : (line : List ℕ) (one other : Option Item) → Reads line one → Reads line other → one ≡ other
one-item line None None is also = refl
one-item line None (Some item) is also = absurd (is item also.0 also.1)
one-item line (Some item) None is also = absurd (also item is.0 is.1)
one-item line (Some one) (Some other) is also = ap Some (same-item one other is.0 also.0 (sym is.1 ∙ also.1))
