-- Items whose order of rank is strict are told apart by rank.
use Rattle.std.proofs.Common.{◌≡◌, ℕ, List, [], ◌∷◌, true, refl, subst, arith}
use Rattle.std.specs.List.{AllByRecursion}
use Rattle.boss_model.specs.Order.{comes_before, in_order}
use Rattle.boss_model.specs.Sound.{Rising}
use Rattle.law_due.specs.Telling.{AreApart}
use Rattle.law_soundness.proofs.SubmitSound.{apart-turn, Rising-Pairs, Pairs-unordered}
use Rattle.law_time.proofs.Filters.{Apart}
use Rattle.law_time.proofs.Orders.{before-self, each-map, each-both}
use Rattle.law_time.proofs.TickSound.{Pairs}

module _ {X : Type 0} (rank : X → List ℕ) where
  unlike : (x y : X) → Apart rank x y → rank x ≡ rank y → x ≡ y
  unlike x y apart same =
      let one : comes_before (rank x) (rank y) ≡ true = subst (λ r. comes_before (rank x) r ≡ true) same (before-self (rank x)) in
      let other : comes_before (rank y) (rank x) ≡ true = subst (λ r. comes_before r (rank x) ≡ true) same (before-self (rank x)) in
      absurd (grind (arith))

  pairs-apart : (xs : List X) → Pairs (Apart rank) xs → AreApart rank xs
  pairs-apart [] pairs = tt
  pairs-apart (x ∷ xs) pairs = (
    ((λ _. refl), each-map (Apart rank x) (λ y. rank x ≡ rank y → x ≡ y) (λ y apart. unlike x y apart) xs pairs.0),
    each-both (λ y. rank y ≡ rank x → y ≡ x) (λ y. AllByRecursion (λ z. rank y ≡ rank z → y ≡ z) xs) xs
        (each-map (Apart rank x) (λ y. rank y ≡ rank x → y ≡ x) (λ y apart. unlike y x (apart-turn rank x y apart)) xs pairs.0) (pairs-apart xs pairs.1),
  )

  pub rising-apart : (xs : List X) → Rising rank (in_order rank xs) → AreApart rank xs
  rising-apart xs rising = pairs-apart xs (Pairs-unordered (Apart rank) (apart-turn rank) rank xs (Rising-Pairs rank (in_order rank xs) rising))
