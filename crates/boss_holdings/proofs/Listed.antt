-- Lists that are gathered one number after another.
use Rattle.std.proofs.Common.{◌≡◌, ℕ, zero, suc, ◌+◌, List, [], ◌++◌, refl, ap, sym, ◌∙◌, append_assoc, append-nil, arith}
use Rattle.boss_slots.specs.Slots.{gather}
use Rattle.boss_holdings.proofs.Counted.{gather-next}

module _ {Y : Type 0} (h : ℕ → List Y) where
  pub none-listed : (k : ℕ) (xs : List Y) → xs ≡ xs ++ gather h k 0
  unfolding gather
  none-listed k xs = sym (append-nil xs)

  pub first-listed : (k : ℕ) → [] ≡ gather h k 0
  unfolding gather
  first-listed k = refl

  pub next-listed : (k n : ℕ) → gather h k n ++ h (k + n) ≡ gather h k (n + 1)
  next-listed k n = let next : n + 1 ≡ suc n = omega arith in sym (ap (gather h k) next ∙ gather-next h k n)

  pub more-listed : (k n : ℕ) (xs : List Y) → (xs ++ gather h k n) ++ h (k + n) ≡ xs ++ gather h k (n + 1)
  more-listed k n xs = append_assoc xs (gather h k n) (h (k + n)) ∙ ap (λ ys. xs ++ ys) (next-listed k n)
