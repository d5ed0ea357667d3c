-- Points that go by different names are renumbered one by one.
use Rattle.std.proofs.Common.{◌≡◌, ℕ, zero, suc, ◌<◌, nat_eq, List, [], ◌∷◌, length, map, get_or, true, false, Option, Some, None, refl, ap, sym, ◌∙◌, subst, arith}
use Rattle.std.specs.Prelude.{slice_get}
use Rattle.std.specs.List.{list_any}
use Rattle.std.specs.Option.{option_and_then}
use Rattle.std.specs.Cmp.Lexicographic.{pointwise}
use Rattle.std.proofs.lemmas.Bool.Decides.{nat_tests}
use Rattle.std.proofs.lemmas.List.{length-map}
use Rattle.std.proofs.lemmas.List.Quantifiers.{position-Some}
use Rattle.std.proofs.lemmas.Option.{slice_get-get_or}
use Rattle.boss_model.specs.Catalogue.{Point, Catalogue, actuators, place_of}
use Rattle.boss_model.specs.Sound.{DistinctNames}
use Rattle.law_machine.proofs.SameDecides.{lists-equal, lists-self}
use Rattle.law_time.proofs.Filters.{position-within}
use Rattle.law_adoption.specs.Renumber.{renumbered, IsRenumbering}

same-name : (xs ys : List ℕ) → pointwise nat_eq xs ys ≡ true → xs ≡ ys
same-name xs ys is = lists-equal nat_eq (λ x y same. grind (arith, nat_tests)) xs ys is

name-self : (xs : List ℕ) → pointwise nat_eq xs xs ≡ true
name-self xs = lists-self nat_eq (λ x. grind (arith, nat_tests)) xs

-- ---- a point that is found by its name

pub named-there : (catalogue : Catalogue) (name : List ℕ) (place : ℕ) (point : Point) → place_of catalogue name ≡ Some place → slice_get catalogue.points place ≡ Some point → point.name ≡ name
named-there catalogue name place point found there =
    let test = λ (p : Point). pointwise nat_eq p.name name in
    let first = position-Some test catalogue.points place point found in
    let got : slice_get catalogue.points place ≡ Some (get_or catalogue.points place point) = slice_get-get_or catalogue.points place point first.0 in
    let same : get_or catalogue.points place point ≡ point = cc in
    same-name point.name name (subst (λ p. test p ≡ true) same first.1)

within-points : (points : List Point) (place : ℕ) → place < length points → (point : Point) × (slice_get points place ≡ Some point)
within-points [] place within = absurd (omega arith)
within-points (p ∷ ps) zero within = (p, refl)
within-points (p ∷ ps) (suc place) within = within-points ps place (omega arith)

pub found-there : (catalogue : Catalogue) (name : List ℕ) (place : ℕ) → place_of catalogue name ≡ Some place → (point : Point) × (slice_get catalogue.points place ≡ Some point)
found-there catalogue name place found =
    within-points catalogue.points place (position-within (λ p. pointwise nat_eq p.name name) catalogue.points place found)

-- two names that are found at one place are one
one-name : (catalogue : Catalogue) (x y : List ℕ) (place : ℕ) → place_of catalogue x ≡ Some place → place_of catalogue y ≡ Some place → x ≡ y
one-name catalogue x y place p q =
    let there = found-there catalogue x place p in
    sym (named-there catalogue x place there.0 p there.1) ∙ named-there catalogue y place there.0 q there.1

-- ---- names that differ

away : (name : List ℕ) (points : List Point) (place : ℕ) (point : Point) → list_any (λ other. pointwise nat_eq other name) (map (λ p. p.name) points) ≡ false →
    slice_get points place ≡ Some point → point.name ≡ name → ⊥
away name [] place point none there same = cc
away name (p ∷ ps) zero point none there same =
    let is : p ≡ point = cc in
    let here : pointwise nat_eq p.name name ≡ true = ap (λ n. pointwise nat_eq n name) (ap (λ q. q.name) is ∙ same) ∙ name-self name in
    let not_here : pointwise nat_eq p.name name ≡ false = grind (arith) in cc
away name (p ∷ ps) (suc place) point none there same = away name ps place point (grind (arith)) there same

one-place : (points : List Point) (p q : ℕ) (x y : Point) → DistinctNames (map (λ point. point.name) points) → slice_get points p ≡ Some x → slice_get points q ≡ Some y → x.name ≡ y.name → p ≡ q
one-place [] p q x y apart at_p at_q same = cc
one-place (z ∷ zs) zero zero x y apart at_p at_q same = refl
one-place (z ∷ zs) zero (suc q) x y apart at_p at_q same =
    let is : z ≡ x = cc in absurd (away z.name zs q y apart.0 at_q (sym same ∙ ap (λ w. w.name) (sym is)))
one-place (z ∷ zs) (suc p) zero x y apart at_p at_q same =
    let is : z ≡ y = cc in absurd (away z.name zs p x apart.0 at_p (same ∙ ap (λ w. w.name) (sym is)))
one-place (z ∷ zs) (suc p) (suc q) x y apart at_p at_q same = ap suc (one-place zs p q x y apart.1 at_p at_q same)

-- ---- the renumbering

module _ (old new : Catalogue) where
  -- the point that goes there
  goes : (p place : ℕ) → renumbered old new p ≡ Some place → (point : Point) × (slice_get old.points p ≡ Some point) × (place_of new point.name ≡ Some place)
  goes p place is = by-point (slice_get old.points p) refl is
    where
      by-point : (found : Option Point) → slice_get old.points p ≡ found → option_and_then (λ x. place_of new x.name) found ≡ Some place →
          (point : Point) × (slice_get old.points p ≡ Some point) × (place_of new point.name ≡ Some place)
      by-point None was none = cc
      by-point (Some x) was found = (x, was, found)

  pub is-renumbering : DistinctNames (map (λ point. point.name) old.points) → IsRenumbering (renumbered old new) (length (actuators new))
  is-renumbering apart = record {
    within = λ p q is.
        let there = goes p q is in
        let inside : q < length new.points = position-within (λ x. pointwise nat_eq x.name there.0.name) new.points q there.2 in
        let as_many : length (actuators new) ≡ length new.points = length-map new.points (λ x. x.actuator) in
        omega arith;
    one = λ p q place is-p is-q.
        let there_p = goes p place is-p in
        let there_q = goes q place is-q in
        one-place old.points p q there_p.0 there_q.0 apart there_p.1 there_q.1 (one-name new there_p.0.name there_q.0.name place there_p.2 there_q.2);
  }

  -- a name's place in the old catalogue goes to its place in the new one
  pub name-goes : (name : List ℕ) (p q : ℕ) → place_of old name ≡ Some p → place_of new name ≡ Some q → renumbered old new p ≡ Some q
  name-goes name p q in_old in_new =
      let there = found-there old name p in_old in
      ap (option_and_then (λ x. place_of new x.name)) there.1
      ∙ ap (place_of new) (named-there old name p there.0 in_old there.1)
      ∙ in_new
