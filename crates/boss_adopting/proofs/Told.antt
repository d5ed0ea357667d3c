-- What is left of notices, with one notice more.
use Rattle.std.proofs.Common.{◌≡◌, ℕ, ◌+◌, ◌<◌, List, [], ◌∷◌, ◌++◌, length, get_or, take, map, Bool, true, false, ◌&&◌, cond, Option, ap, ◌∙◌, arith}
use Rattle.std.specs.List.{list_all}
use Rattle.std.proofs.lemmas.Bool.{cond_both}
use Rattle.std.proofs.lemmas.List.{map-append}
use Rattle.boss_model.specs.declared.notice.Notice.{Notice}
use Rattle.boss_adopting.proofs.Fronts.{take-item}
use Rattle.law_adoption.specs.Adopted.{moved_notice, notice_stays, last_passing}

module _ {X : Type 0} (test : X → Bool) (x : X) where
  all-snoc : (xs : List X) → list_all test (xs ++ x ∷ []) ≡ (list_all test xs && test x)
  all-snoc [] = grind arith
  all-snoc (y ∷ ys) = grind (arith, all-snoc ys)

  passing-snoc : (xs : List X) (passes : Bool) → test x ≡ passes → last_passing test (xs ++ x ∷ []) ≡ cond passes (last_passing test xs ++ x ∷ []) []
  passing-snoc [] passes is = ap (λ b. cond (b && true) (x ∷ []) []) is ∙ grind arith
  passing-snoc (y ∷ ys) true is =
      let same : list_all test (y ∷ (ys ++ x ∷ [])) ≡ list_all test (y ∷ ys) = grind (arith, all-snoc ys) in
      ap (λ b. cond b (y ∷ (ys ++ x ∷ [])) (last_passing test (ys ++ x ∷ []))) same
      ∙ ap (λ left. cond (list_all test (y ∷ ys)) (y ∷ (ys ++ x ∷ [])) left) (passing-snoc ys true is)
      ∙ cond_both (list_all test (y ∷ ys)) (y ∷ ys) (last_passing test ys)
      (λ left. cond (list_all test (y ∷ ys)) (y ∷ (ys ++ x ∷ [])) (last_passing test ys ++ x ∷ []) ≡ left ++ x ∷ [])
      (λ all. ap (λ b. cond b (y ∷ (ys ++ x ∷ [])) (last_passing test ys ++ x ∷ [])) all)
      (λ some. ap (λ b. cond b (y ∷ (ys ++ x ∷ [])) (last_passing test ys ++ x ∷ [])) some)
  passing-snoc (y ∷ ys) false is =
      let none : list_all test (y ∷ (ys ++ x ∷ [])) ≡ false = grind (arith, all-snoc ys) in
      ap (λ b. cond b (y ∷ (ys ++ x ∷ [])) (last_passing test (ys ++ x ∷ []))) none ∙ passing-snoc ys false is

-- the first notices, and one more
module _ (to : ℕ → Option ℕ) (notices : List Notice) (i : ℕ) (x : Notice) (within : i < length notices) (is : x ≡ get_or notices i x) where
  left-next : (stays : Bool) → notice_stays to x ≡ stays →
      last_passing (notice_stays to) (take (i + 1) notices) ≡ cond stays (last_passing (notice_stays to) (take i notices) ++ x ∷ []) []
  left-next stays so = ap (last_passing (notice_stays to)) (take-item notices i x within is) ∙ passing-snoc (notice_stays to) x (take i notices) stays so

  pub left-staying : notice_stays to x ≡ true →
      map (moved_notice to) (last_passing (notice_stays to) (take (i + 1) notices))
      ≡ map (moved_notice to) (last_passing (notice_stays to) (take i notices)) ++ moved_notice to x ∷ []
  left-staying so = ap (map (moved_notice to)) (left-next true so) ∙ map-append (moved_notice to) (last_passing (notice_stays to) (take i notices)) (x ∷ [])

  pub left-going : notice_stays to x ≡ false → map (moved_notice to) (last_passing (notice_stays to) (take (i + 1) notices)) ≡ []
  left-going so = ap (map (moved_notice to)) (left-next false so)
