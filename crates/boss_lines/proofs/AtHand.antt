-- Whether a line ends among bytes that were read ahead.
use Rattle.std.proofs.Common.{◌≡◌, ℕ, zero, suc, ◌+◌, ◌-◌, ◌<◌, ◌≤◌, ◌==◌, Bool, true, false, ◌||◌, List, [], ◌∷◌, ◌++◌, length, take, drop, slice_index, refl, ap, sym, ◌∙◌, eq-eqb, leb, arith}
use Rattle.std.specs.List.{list_any}
use Rattle.std.proofs.lemmas.Bool.{ne_eqb, leb-true, leb-false}
use Rattle.std.proofs.lemmas.List.{get_or_append_left, take_all, length-drop}
use Rattle.boss_model.specs.Limits.{longest_line}
use Rattle.boss_lines.specs.Lines.{ends_line}
use Rattle.boss_lines.specs.Window.{NoLineEnd}
use Rattle.boss_lines.proofs.LinesLemmas.{NoLineEnd-tail}

any-within : (bytes : List ℕ) (place count : ℕ) → place < length bytes → slice_index bytes place ≡ 10 → place < count → list_any (λ byte. byte == 10) (take count bytes) ≡ true
any-within [] place count low is few = absurd (omega arith)
any-within (b ∷ bytes) place zero low is few = absurd (omega arith)
any-within (b ∷ bytes) zero (suc count) low is few = ap (λ t. t || list_any (λ byte. byte == 10) (take count bytes)) (eq-eqb b 10 is)
any-within (b ∷ bytes) (suc place) (suc count) low is few =
    or-true (b == 10) (any-within bytes place count (omega arith) is (omega arith))
  where
    or-true : (t : Bool) {u : Bool} → u ≡ true → (t || u) ≡ true
    or-true true is = refl
    or-true false is = is

none-within : (bytes : List ℕ) (count : ℕ) → NoLineEnd count bytes → list_any (λ byte. byte == 10) (take count bytes) ≡ false
none-within [] zero none = refl
none-within [] (suc count) none = refl
none-within (b ∷ bytes) zero none = refl
none-within (b ∷ bytes) (suc count) none =
    ap (λ t. t || list_any (λ byte. byte == 10) (take count bytes)) (ne_eqb b 10 (none 0 (omega arith))) ∙ none-within bytes count (NoLineEnd-tail count b bytes none)

none-at-all : (bytes : List ℕ) (count : ℕ) → NoLineEnd (length bytes) bytes → list_any (λ byte. byte == 10) (take count bytes) ≡ false
none-at-all [] zero none = refl
none-at-all [] (suc count) none = refl
none-at-all (b ∷ bytes) zero none = refl
none-at-all (b ∷ bytes) (suc count) none =
    ap (λ t. t || list_any (λ byte. byte == 10) (take count bytes)) (ne_eqb b 10 (none 0 (omega arith))) ∙ none-at-all bytes count (NoLineEnd-tail (length bytes) b bytes none)

pub ends_line-near : (bytes : List ℕ) (place : ℕ) → place < length bytes → slice_index bytes place ≡ 10 → place ≤ longest_line → ends_line bytes ≡ true
ends_line-near bytes place low is near = any-within bytes place (longest_line + 1) low is (omega (arith, near))

pub ends_line-far : (bytes : List ℕ) (place : ℕ) → NoLineEnd place bytes → longest_line < place → ends_line bytes ≡ false
ends_line-far bytes place none far = none-within bytes (longest_line + 1) (λ k low. none k (omega (arith, low, far)))

pub ends_line-none : (bytes : List ℕ) → NoLineEnd (length bytes) bytes → ends_line bytes ≡ false
ends_line-none bytes none = none-at-all bytes (longest_line + 1) none

-- no line end stands near, though one is at hand
pub not-far : (held old : List ℕ) (place : ℕ) → ends_line old ≡ true → held ≡ old → NoLineEnd place held → longest_line < place → ⊥
not-far held old place at_hand is none far =
    let no : true ≡ false = sym at_hand ∙ ap ends_line (sym is) ∙ ends_line-far held place none far in cc

pub not-none : (held old : List ℕ) → ends_line old ≡ true → held ≡ old → NoLineEnd (length held) held → ⊥
not-none held old at_hand is none =
    let no : true ≡ false = sym at_hand ∙ ap ends_line (sym is) ∙ ends_line-none held none in cc

-- the bytes that are held have no line end, also once more were read behind them
pub NoLineEnd-more : (held old more new : List ℕ) → held ≡ old → new ≡ old ++ more → NoLineEnd (length held) held → NoLineEnd (length held) new
NoLineEnd-more held old more new same is none = λ k low at.
    let behind : new ≡ held ++ more = is ∙ ap (λ xs. xs ++ more) (sym same) in
    none k low (sym (get_or_append_left held more 0 k low) ∙ sym (ap (λ xs. slice_index xs k) behind) ∙ at)

-- the bytes behind the first ones
pub behind-is : (held window : List ℕ) (count : ℕ) → held ≡ window → take (length held - count) (drop count held) ≡ drop count window
behind-is held window count is = rw is (take_all (length window - count) (drop count window) (omega (arith, length-drop count window)))

-- whether the first line end is near enough
pub leb-near : (bytes tail : List ℕ) (place : ℕ) → bytes ≡ tail → NoLineEnd place bytes → place < length bytes → slice_index bytes place ≡ 10 → leb place longest_line ≡ ends_line tail
leb-near bytes tail place is none low at = by (leb place longest_line) refl
  where
    by : (near : Bool) → leb place longest_line ≡ near → near ≡ ends_line tail
    by true e = sym (ap ends_line (sym is) ∙ ends_line-near bytes place low at (leb-true place longest_line e))
    by false e = sym (ap ends_line (sym is) ∙ ends_line-far bytes place none (leb-false place longest_line e))

pub none-behind : (bytes tail : List ℕ) → bytes ≡ tail → NoLineEnd (length bytes) bytes → false ≡ ends_line tail
none-behind bytes tail is none = sym (ap ends_line (sym is) ∙ ends_line-none bytes none)
