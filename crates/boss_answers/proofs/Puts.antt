-- Texts that a buffer takes one after another.
use Rattle.std.proofs.Common.{◌≡◌, ℕ, ◌+◌, ◌≤◌, List, ◌++◌, length, ap, sym, subst, ◌∙◌, append_assoc, length-append, arith}
use Rattle.boss_model.specs.Held.{Held}
use Rattle.boss_answers.specs.Room.{PutsAtMost}

-- a text of known length
pub puts : {old new : Held} {text : List ℕ} → new ≡ record old { bytes = old.bytes ++ text } → PutsAtMost (length text) old new text
puts is = record { put = is; short = omega arith }

-- one text, and another behind it
pub puts_both : {m n : ℕ} {old between new : Held} {first second : List ℕ} → PutsAtMost m old between first → PutsAtMost n between new second →
    PutsAtMost (m + n) old new (first ++ second)
puts_both {m} {n} {old} {between} {new} {first} {second} one two = record {
  put = two.put ∙ ap {A = Held} {B = Held} (λ held. record held { bytes = held.bytes ++ second }) one.put
      ∙ ap {A = List ℕ} {B = Held} (λ bytes. record old { bytes = bytes }) (append_assoc old.bytes first second);
  short = omega (arith, length-append first second, one.short, two.short);
}

-- one text, and another behind it that has a key
pub puts_keyed : (key text : List ℕ) {m n : ℕ} {old between new : Held} {first : List ℕ} → PutsAtMost m old between first → PutsAtMost n between new (key ++ text) →
    PutsAtMost (m + n) old new (first ++ key ++ text)
puts_keyed key text {m} {n} {old} {between} {new} {first} one two =
    subst (PutsAtMost (m + n) old new) (sym (append_assoc first key text)) (puts_both one two)

pub puts_within : {m most : ℕ} {old new : Held} {text : List ℕ} → PutsAtMost m old new text → m ≤ most → PutsAtMost most old new text
puts_within puts enough = record { put = puts.put; short = omega (arith, puts.short, enough) }
