-- Points that stay are told apart by their new numbers as by their old ones.
use Rattle.std.proofs.Common.{◌≡◌, ℕ, ◌<◌, ◌==◌, true, Option, Some, None, refl, ap, sym, ◌∙◌, arith}
use Rattle.std.specs.Prelude.{is_some, unwrap_or}
use Rattle.std.proofs.lemmas.Bool.Decides.{nat_tests}
use Rattle.law_adoption.specs.Renumber.{stays, at, IsRenumbering}

some-is : (o : Option ℕ) → is_some o ≡ true → o ≡ Some (unwrap_or o 0)
some-is None there = cc
some-is (Some x) there = refl

module _ (to : ℕ → Option ℕ) (points : ℕ) (renumbering : IsRenumbering to points) where
  pub within-plant : (p : ℕ) → stays to p ≡ true → at to p < points
  within-plant p there = renumbering.within p (at to p) (some-is (to p) there)

  pub same-place : (p q : ℕ) → stays to p ≡ true → stays to q ≡ true → (at to p == at to q) ≡ (p == q)
  same-place p q p-there q-there =
      let one : at to p ≡ at to q → p ≡ q = λ e. renumbering.one p q (at to p) (some-is (to p) p-there) (some-is (to q) q-there ∙ ap Some (sym e)) in
      let other : p ≡ q → at to p ≡ at to q = λ e. ap (at to) e in
      grind (arith, nat_tests, one, other)
