-- The lines of a text are its pieces between line ends, but for an empty one at its end.
use Rattle.std.proofs.Common.{arith, ◌<◌, length, nat_eq, ◌≡◌, ◌⊎◌, inl, inr, ℕ, ◌==◌, Bool, true, false, List, [], ◌∷◌, ◌++◌, count_by, cond, refl, ap, sym, ◌∙◌, ◌+◌, add-zero}
use Rattle.std.specs.List.{onto_first, slice_split, starts_with}
use Rattle.std.proofs.lemmas.List.Sums.{sum_by-append}
use Rattle.boss_model.specs.Lines.{lines}

abbrev pieces : List ℕ → List (List ℕ)
pieces text = slice_split (λ byte. byte == 10) text

-- one byte more in front of the first line, where the empty piece at the end is not the first
more-first : (byte : ℕ) (all : List (List ℕ)) → (onto_first byte (all ++ [] ∷ []) ≡ onto_first byte all) ⊎ (onto_first byte (all ++ [] ∷ []) ≡ onto_first byte all ++ [] ∷ [])
more-first byte [] = inl refl
more-first byte (line ∷ others) = inr refl

pieces-are : (text : List ℕ) → (pieces text ≡ lines text) ⊎ (pieces text ≡ lines text ++ [] ∷ [])
pieces-are [] = inr refl
pieces-are (byte ∷ text) = by (byte == 10) (pieces-are text)
  where
    by : (ends : Bool) → (pieces text ≡ lines text) ⊎ (pieces text ≡ lines text ++ [] ∷ []) →
        (cond ends ([] ∷ pieces text) (onto_first byte (pieces text)) ≡ cond ends ([] ∷ lines text) (onto_first byte (lines text)))
        ⊎ (cond ends ([] ∷ pieces text) (onto_first byte (pieces text)) ≡ cond ends ([] ∷ lines text) (onto_first byte (lines text)) ++ [] ∷ [])
    by true (inl same) = inl (ap (λ all. [] ∷ all) same)
    by true (inr more) = inr (ap (λ all. [] ∷ all) more)
    by false (inl same) = inl (ap (onto_first byte) same)
    by false (inr more) = elim (more-first byte (lines text)) [ inl first ↦ inl (ap (onto_first byte) more ∙ first) | inr last ↦ inr (ap (onto_first byte) more ∙ last) ]

-- a test that the empty line fails passes for as many lines as pieces
pub count_by-pieces : (test : List ℕ → Bool) → test [] ≡ false → (text : List ℕ) → count_by test (pieces text) ≡ count_by test (lines text)
count_by-pieces test fails text = elim (pieces-are text) [
  | inl same ↦ ap (count_by test) same
  | inr more ↦ ap (count_by test) more ∙ sum_by-append (λ line. cond (test line) 1 0) (lines text) ([] ∷ [])
      ∙ ap (λ b. count_by test (lines text) + (0 + cond b 1 0)) fails ∙ add-zero (count_by test (lines text))
]

-- an empty line begins with nothing
pub starts_none : (beginning : List ℕ) → 0 < length beginning → starts_with nat_eq [] beginning ≡ false
starts_none [] some = absurd (omega arith)
starts_none (byte ∷ beginning) some = refl
