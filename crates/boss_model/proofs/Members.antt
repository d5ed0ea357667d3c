-- Numbers in a list: which stand there, that each stands once, and what is left without one of them.
use Rattle.std.proofs.Common.{◌≡◌, ℕ, zero, suc, ◌<◌, ◌≤◌, ◌==◌, Bool, true, false, not, ◌||◌, ◌&&◌, List, [], ◌∷◌, ◌++◌, length, drop, refl, ap, sym, ◌∙◌, arith}
use Rattle.std.specs.List.{filter, list_any, IsDistinct, AllByRecursion}
use Rattle.std.proofs.lemmas.Bool.{cond_both}
use Rattle.std.proofs.lemmas.Bool.Decides.{nat_tests}
use Rattle.std.proofs.lemmas.List.Folds.{list_any-append}
use Rattle.std.proofs.lemmas.Map.Steps.{length-le_from_distinct_below}
use Rattle.boss_model.specs.Lists.{member, without}
use Rattle.boss_model.specs.Sound.{Distinct}

-- ---- which stand there

pub member-append : (n : ℕ) (xs ys : List ℕ) → member n (xs ++ ys) ≡ (member n xs || member n ys)
member-append n xs ys = list_any-append (λ x. x == n) xs ys

pub member-filter : (n : ℕ) (test : ℕ → Bool) (xs : List ℕ) → member n (filter test xs) ≡ (test n && member n xs)
member-filter n test [] = grind (arith, nat_tests)
member-filter n test (x ∷ xs) =
    cond_both (x == n) true false (λ b. (x == n) ≡ b → member n (filter test (x ∷ xs)) ≡ (test n && member n (x ∷ xs)))
    (λ is _. let same : x ≡ n = grind (arith, nat_tests) in
    let t : test x ≡ test n = ap test same in
    grind (arith, nat_tests, member-filter n test xs))
    (λ other _. grind (arith, nat_tests, member-filter n test xs)) (grind arith)

pub member-drop : (n m : ℕ) (xs : List ℕ) → member n xs ≡ false → member n (drop m xs) ≡ false
member-drop n zero xs away = away
member-drop n (suc m) [] away = away
member-drop n (suc m) (x ∷ xs) away = member-drop n m xs (grind (arith, nat_tests))

-- ---- without one of them

pub member-without : (n m : ℕ) (xs : List ℕ) → member n (without m xs) ≡ (not (n == m) && member n xs)
member-without n m xs = member-filter n (λ x. not (x == m)) xs

pub member-without_same : (n : ℕ) (xs : List ℕ) → member n (without n xs) ≡ false
member-without_same n xs = grind (arith, nat_tests, member-without n n xs)

pub without-none : (n : ℕ) (xs : List ℕ) → member n xs ≡ false → without n xs ≡ xs
without-none n [] away = refl
without-none n (x ∷ xs) away = grind (arith, nat_tests, without-none n xs)

-- ---- each stands once

pub Distinct-snoc : (xs : List ℕ) (n : ℕ) → Distinct xs → member n xs ≡ false → Distinct (xs ++ n ∷ [])
Distinct-snoc [] n once away = (refl, tt)
Distinct-snoc (x ∷ xs) n once away = (grind (arith, nat_tests, member-append x xs (n ∷ []), once.0), Distinct-snoc xs n once.1 (grind (arith, nat_tests)))

pub Distinct-append : (xs ys : List ℕ) → Distinct xs → Distinct ys → AllByRecursion (λ x. member x ys ≡ false) xs → Distinct (xs ++ ys)
Distinct-append [] ys p q apart = q
Distinct-append (x ∷ xs) ys p q apart =
    (grind (arith, nat_tests, member-append x xs ys, p.0, apart.0), Distinct-append xs ys p.1 q apart.1)

pub Distinct-filter : (test : ℕ → Bool) (xs : List ℕ) → Distinct xs → Distinct (filter test xs)
Distinct-filter test [] once = tt
Distinct-filter test (x ∷ xs) once = cond_both (test x) (x ∷ filter test xs) (filter test xs) Distinct
    (λ _. (grind (arith, nat_tests, member-filter x test xs, once.0), Distinct-filter test xs once.1)) (λ _. Distinct-filter test xs once.1)

pub Distinct-without : (n : ℕ) (xs : List ℕ) → Distinct xs → Distinct (without n xs)
Distinct-without n xs once = Distinct-filter (λ x. not (x == n)) xs once

pub Distinct-drop : (n : ℕ) (xs : List ℕ) → Distinct xs → Distinct (drop n xs)
Distinct-drop zero xs once = once
Distinct-drop (suc n) [] once = once
Distinct-drop (suc n) (x ∷ xs) once = Distinct-drop n xs once.1

-- ---- numbers below a room that each stand once are no more than the room

each-other : (n : ℕ) (xs : List ℕ) → member n xs ≡ false → AllByRecursion (λ x. (n == x) ≡ false) xs
each-other n [] away = tt
each-other n (x ∷ xs) away = (grind (arith, nat_tests), each-other n xs (grind (arith, nat_tests)))

distinct : (xs : List ℕ) → Distinct xs → IsDistinct (λ x y. x == y) xs
unfolding IsDistinct
distinct [] once = tt
distinct (x ∷ xs) once = (each-other x xs once.0, distinct xs once.1)

flipped : (n : ℕ) (xs : List ℕ) → list_any (λ x. n == x) xs ≡ member n xs
flipped n [] = refl
flipped n (x ∷ xs) = grind (arith, nat_tests, flipped n xs)

pub length-le_from_Distinct : (xs : List ℕ) (room : ℕ) → Distinct xs → ((n : ℕ) → member n xs ≡ true → n < room) → length xs ≤ room
length-le_from_Distinct xs room once below = length-le_from_distinct_below xs room (distinct xs once) (λ n inside. below n (sym (flipped n xs) ∙ inside))
