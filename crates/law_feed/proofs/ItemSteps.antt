-- A line that is an item's text has the step of that item.
use Rattle.std.proofs.Common.{◌≡◌, ℕ, ◌+◌, ◌*◌, ◌≤◌, nat_le, Bool, true, false, List, ◌∷◌, length, Some, refl, sym, subst, arith, length-append}
use Rattle.std.specs.Fmt.{decimal}
use Rattle.std.specs.Prelude.{MatchBool}
use Rattle.std.proofs.lemmas.Bool.{le-leb}
use Rattle.std.proofs.lemmas.Fmt.{length-decimal-le}
use Rattle.hex.specs.Hex.{encode_lower, lower_digits}
use Rattle.hex.proofs.HexLemmas.{length-encode_with}
use Rattle.boss_model.specs.declared.state.Actuator.{Actuator}
use Rattle.boss_model.specs.Limits.{longest_line}
use Rattle.boss_model.specs.Lines.{is_blank}
use Rattle.def_feed.specs.Feeds.{longest_part}
use Rattle.def_feed.specs.Items.{Item, StateLine, PartLine, EventLine, item_text, IsItem, IsNumber}
use Rattle.def_feed.specs.Followers.{Follower, Step, step_of, OnStep, Outcome, Follows}

-- few bytes stand in one line
abbrev pub IsShort : Item → Type 0
IsShort (StateLine number size) = Unit {0}
IsShort (PartLine bytes) = length bytes ≤ longest_part
IsShort (EventLine number bytes) = length bytes ≤ 4096

digits-size : (n : ℕ) → IsNumber n → length (decimal n) ≤ 20
digits-size n small = length-decimal-le 20 n (omega arith) (omega arith) small

hex-size : (bytes : List ℕ) → length (encode_lower bytes) ≡ 2 * length bytes
hex-size bytes = length-encode_with lower_digits bytes

text-size : (item : Item) → IsItem item → IsShort item → length (item_text item) ≤ longest_line
text-size (StateLine number size) is short = omega (arith, length-append (decimal number) (32 ∷ decimal size), digits-size number is.0, digits-size size is.1)
text-size (PartLine bytes) is short = omega (arith, hex-size bytes)
text-size (EventLine number bytes) is short = omega (arith, length-append (decimal number) (32 ∷ encode_lower bytes), digits-size number is.0, hex-size bytes)

not-blank : (item : Item) → is_blank (item_text item) ≡ false
not-blank (StateLine number size) = refl
not-blank (PartLine bytes) = refl
not-blank (EventLine number bytes) = refl

if-true : (test : Bool) (P Q : Type 0) → test ≡ true → P → MatchBool test P Q
if-true true P Q is p = p
if-true false P Q is p = absurd cc

if-false : (test : Bool) (P Q : Type 0) → test ≡ false → Q → MatchBool test P Q
if-false true P Q is q = absurd cc
if-false false P Q is q = q

module _ (plant : List Actuator) (f : Follower) (number : ℕ) (item : Item) (lines : List (List ℕ)) (outcome : Outcome) where
  pub line-steps : IsItem item → IsShort item → (step : Step) → step_of f item ≡ step →
      OnStep plant f number (λ next. Follows plant next (number + 1) lines outcome) outcome step → Follows plant f number (item_text item ∷ lines) outcome
  line-steps is short step same on =
      if-true (nat_le (length (item_text item)) longest_line) _ _ (le-leb (length (item_text item)) longest_line (text-size item is short))
      (if-false (is_blank (item_text item)) (Follows plant f (number + 1) lines outcome) _ (not-blank item)
      (Some item, (is, refl), subst (OnStep plant f number (λ next. Follows plant next (number + 1) lines outcome) outcome) (sym same) on))
