-- How many items of a gathered list pass a test, one number after another.
use Rattle.std.proofs.Common.{◌≡◌, ℕ, zero, suc, ◌+◌, List, [], ◌∷◌, ◌++◌, length, get_or, ◌<◌, Bool, true, false, refl, ap, sym, ◌∙◌, append_assoc, append-nil, arith}
use Rattle.std.specs.List.{filter}
use Rattle.std.proofs.lemmas.List.{length-append}
use Rattle.law_time.proofs.Filters.{filter-append}
use Rattle.boss_slots.specs.Slots.{gather}

module _ {Y : Type 0} where
  pub gather-next : (h : ℕ → List Y) (k n : ℕ) → gather h k (suc n) ≡ gather h k n ++ h (k + n)
  unfolding gather
  gather-next h k zero = let here : k + zero ≡ k = omega arith in append-nil (h k) ∙ ap h (sym here)
  gather-next h k (suc n) =
      let here : k + 1 + n ≡ k + suc n = omega arith in
      ap (λ ys. h k ++ ys) (gather-next h (k + 1) n ∙ ap (λ p. gather h (k + 1) n ++ h p) here) ∙ sym (append_assoc (h k) (gather h (k + 1) n) (h (k + suc n)))

  pub counted-first : (test : Y → Bool) (h : ℕ → List Y) (k : ℕ) → 0 ≡ length (filter test (gather h k 0))
  unfolding gather
  counted-first test h k = refl

  pub counted-next : (test : Y → Bool) (h : ℕ → List Y) (k n : ℕ) →
      length (filter test (gather h k (n + 1))) ≡ length (filter test (gather h k n)) + length (filter test (h (k + n)))
  counted-next test h k n =
      let next : n + 1 ≡ suc n = omega arith in
      ap (λ m. length (filter test (gather h k m))) next
      ∙ ap (λ ys. length (filter test ys)) (gather-next h k n)
      ∙ ap length (filter-append test (gather h k n) (h (k + n)))
      ∙ length-append (filter test (gather h k n)) (filter test (h (k + n)))

-- a flag that is set is one of the list's
pub touched-within : (flags : List Bool) (point : ℕ) → get_or flags point false ≡ true → point < length flags
touched-within [] point is = cc
touched-within (flag ∷ flags) zero is = omega arith
touched-within (flag ∷ flags) (suc point) is = let rest = touched-within flags point is in omega (arith, rest)
