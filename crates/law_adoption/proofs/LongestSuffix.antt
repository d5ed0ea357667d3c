-- The longest suffix whose items all pass a test.
use Rattle.std.proofs.Common.{◌≡◌, ℕ, suc, ◌+◌, ◌-◌, ◌≤◌, List, [], ◌∷◌, ◌++◌, length, Bool, true, refl, ap, sym, subst, arith}
use Rattle.std.specs.List.{list_all, AllByRecursion}
use Rattle.std.proofs.lemmas.Bool.{cond_both}
use Rattle.boss_model.specs.declared.notice.Notice.{Notice}
use Rattle.boss_model.specs.Sound.{NumberedFrom}
use Rattle.law_adoption.specs.Adopted.{last_passing}

module _ {X : Type 0} (test : X → Bool) where
  -- it is a suffix
  pub passing-suffix : (xs : List X) → (front : List X) × (xs ≡ front ++ last_passing test xs)
  passing-suffix [] = ([], refl)
  passing-suffix (x ∷ xs) =
      let rest = passing-suffix xs in
      cond_both (list_all test (x ∷ xs)) (x ∷ xs) (last_passing test xs) (λ ys. (front : List X) × (x ∷ xs ≡ front ++ ys))
      (λ _. ([], refl)) (λ _. (x ∷ rest.0, ap (λ ys. x ∷ ys) rest.1))

  -- all of it passes
  pub passing-passes : (xs : List X) → list_all test (last_passing test xs) ≡ true
  passing-passes [] = refl
  passing-passes (x ∷ xs) = cond_both (list_all test (x ∷ xs)) (x ∷ xs) (last_passing test xs) (λ ys. list_all test ys ≡ true)
      (λ all. all) (λ _. passing-passes xs)

  passing-all : (xs : List X) → list_all test xs ≡ true → last_passing test xs ≡ xs
  passing-all [] all = refl
  passing-all (x ∷ xs) all = rw all refl

  no-longer : (front back : List X) → list_all test back ≡ true → length back ≤ length (last_passing test (front ++ back))
  no-longer [] back all = let same : length (last_passing test back) ≡ length back = ap length (passing-all back all) in omega arith
  no-longer (x ∷ front) back all = cond_both (list_all test (x ∷ front ++ back)) (x ∷ front ++ back) (last_passing test (front ++ back)) (λ ys. length back ≤ length ys)
      (λ _. longer (x ∷ front)) (λ _. no-longer front back all)
    where
      longer : (ys : List X) → length back ≤ length (ys ++ back)
      longer [] = omega arith
      longer (y ∷ ys) = omega (arith, longer ys)

  -- no longer suffix passes
  pub passing-longest : (xs front back : List X) → xs ≡ front ++ back → list_all test back ≡ true → length back ≤ length (last_passing test xs)
  passing-longest xs front back is all = subst (λ ys. length back ≤ length (last_passing test ys)) (sym is) (no-longer front back all)

  -- what holds of all items holds of those that are left
  pub each-passing : (P : X → Type 0) (xs : List X) → AllByRecursion P xs → AllByRecursion P (last_passing test xs)
  each-passing P [] all = tt
  each-passing P (x ∷ xs) all = cond_both (list_all test (x ∷ xs)) (x ∷ xs) (last_passing test xs) (AllByRecursion P) (λ _. all) (λ _. each-passing P xs all.1)

  pub few-passing : (xs : List X) → length (last_passing test xs) ≤ length xs
  few-passing [] = omega arith
  few-passing (x ∷ xs) = cond_both (list_all test (x ∷ xs)) (x ∷ xs) (last_passing test xs) (λ ys. length ys ≤ length (x ∷ xs))
      (λ _. omega arith) (λ _. omega (arith, few-passing xs))

-- items that all pass a test, one by one
pub each-passes : {X : Type 0} (test : X → Bool) (xs : List X) → list_all test xs ≡ true → AllByRecursion (λ x. test x ≡ true) xs
each-passes test [] all = tt
each-passes test (x ∷ xs) all = (grind (arith), each-passes test xs (grind (arith)))

-- the numbers of a suffix end as those of the whole
pub passing-numbers : (test : Notice → Bool) (number : ℕ) (notices : List Notice) → NumberedFrom number notices →
    NumberedFrom (number + length notices - length (last_passing test notices)) (last_passing test notices)
passing-numbers test number [] numbered = tt
passing-numbers test number (notice ∷ notices) numbered =
    let rest : NumberedFrom (number + 1 + length notices - length (last_passing test notices)) (last_passing test notices) = passing-numbers test (number + 1) notices numbered.1 in
    let whole : number ≡ number + suc (length notices) - suc (length notices) = omega arith in
    let later : number + 1 + length notices - length (last_passing test notices) ≡ number + suc (length notices) - length (last_passing test notices) = omega arith in
    cond_both (list_all test (notice ∷ notices)) (notice ∷ notices) (last_passing test notices)
    (λ left. NumberedFrom (number + length (notice ∷ notices) - length left) left)
    (λ _. subst (λ n. NumberedFrom n (notice ∷ notices)) whole numbered)
    (λ _. subst (λ n. NumberedFrom n (last_passing test notices)) later rest)
