-- Lemmas on counts and on lists of places.
use Rattle.std.proofs.Common.{◌≡◌, ◌≢◌, ◌⊎◌, ℕ, zero, suc, ◌+◌, ◌<◌, ◌≤◌, List, [], ◌∷◌, ◌++◌, Bool, true, false, nat_lt, if◌then◌else◌, inl, inr, refl, ap, subst, arith, ltb-true, ltb-false, eq-or-lt_of_le, add-zero}
use Rattle.std.proofs.lemmas.Bool.{cases_lt}
use Rattle.boss_lock.specs.Places.{same, below, times, numbers_from, AllBelow, AllAbove, Rises, put_in, woven}

pub same_self : (k : ℕ) → same k k ≡ 1
same_self zero = refl
same_self (suc k) = same_self k

pub same_not : (k j : ℕ) → k ≢ j → same k j ≡ 0
same_not zero zero n = absurd (n refl)
same_not zero (suc j) n = refl
same_not (suc k) zero n = refl
same_not (suc k) (suc j) n = same_not k j (λ e. n (ap suc e))

pub below_no : (k n : ℕ) → n ≤ k → below k n ≡ 0
below_no k zero h = refl
below_no k (suc n) h = let a = same_not k n (λ e. omega arith) in let b = below_no k n (omega arith) in omega arith

below_next : (k n : ℕ) → (k ≡ n) ⊎ (k < n) → below k (suc n) ≡ 1
below_next k n (inl e) = let a : same k n ≡ 1 = rw e (same_self n) in let b = below_no k n (omega arith) in omega arith
below_next k zero (inr l) = absurd (omega arith)
below_next k (suc n) (inr l) = let a = same_not k (suc n) (λ e. omega arith) in let b = below_next k n (eq-or-lt_of_le (omega arith)) in omega arith

pub below_yes : (k n : ℕ) → k < n → below k n ≡ 1
below_yes k zero h = absurd (omega arith)
below_yes k (suc n) h = below_next k n (eq-or-lt_of_le (omega arith))

pub below_is : (k n : ℕ) → 0 < below k n → k < n
below_is k n h = cases (cases_lt k n)
  where
    cases : (k < n) ⊎ (n ≤ k) → k < n
    cases (inl l) = l
    cases (inr g) = let e = below_no k n g in absurd (omega arith)

pub below_le : (k n : ℕ) → below k n ≤ 1
below_le k n = cases (cases_lt k n)
  where
    cases : (k < n) ⊎ (n ≤ k) → below k n ≤ 1
    cases (inl l) = let e = below_yes k n l in omega arith
    cases (inr g) = let e = below_no k n g in omega arith

pub times_append : (k : ℕ) (xs ys : List ℕ) → times k (xs ++ ys) ≡ times k xs + times k ys
times_append k [] ys = omega arith
times_append k (x ∷ xs) ys = let h = times_append k xs ys in omega arith

pub times_numbers : (k a n : ℕ) → times k (numbers_from a n) + below k a ≡ below k (a + n)
times_numbers k a zero = let e : below k (a + 0) ≡ below k a = ap (below k) (add-zero a) in omega arith
times_numbers k a (suc n) = let h = times_numbers k (suc a) n in let e : below k (a + suc n) ≡ below k (suc a + n) = ap (below k) (omega arith) in omega arith

times_put_in : (k p : ℕ) (ys : List ℕ) → times k (put_in p ys) ≡ same k p + times k ys
times_put_in k p [] = refl
times_put_in k p (q ∷ qs) = elim (nat_lt p q) as (λ b. times k (if b then p ∷ q ∷ qs else q ∷ put_in p qs) ≡ same k p + (same k q + times k qs)) [
  | true ↦ refl
  | false ↦ let h = times_put_in k p qs in omega arith
]

pub times_woven : (k : ℕ) (xs ys : List ℕ) → times k (woven xs ys) ≡ times k xs + times k ys
times_woven k [] ys = omega arith
times_woven k (x ∷ xs) ys = let h = times_woven k xs ys in let e = times_put_in k x (woven xs ys) in omega arith

pub all_below_more : (n m : ℕ) (xs : List ℕ) → n ≤ m → AllBelow n xs → AllBelow m xs
all_below_more n m [] le h = tt
all_below_more n m (x ∷ xs) le h = let a = h.0 in (omega arith, all_below_more n m xs le h.1)

-- a list of which each number that stands in it is less than n
pub all_below_from : (n : ℕ) (xs : List ℕ) → ((k : ℕ) → 0 < times k xs → k < n) → AllBelow n xs
all_below_from n [] h = tt
all_below_from n (x ∷ xs) h = let s = same_self x in (h x (omega arith), all_below_from n xs (λ k l. h k (omega arith)))

-- where each number is less than n, n is none of them
pub times_none : (n : ℕ) (xs : List ℕ) → AllBelow n xs → times n xs ≡ 0
times_none n [] h = refl
times_none n (x ∷ xs) h = let l = h.0 in let a = same_not n x (λ e. omega arith) in let b = times_none n xs h.1 in omega arith

all_above_less : (n m : ℕ) (xs : List ℕ) → m ≤ n → AllAbove n xs → AllAbove m xs
all_above_less n m [] le h = tt
all_above_less n m (x ∷ xs) le h = let a = h.0 in (omega arith, all_above_less n m xs le h.1)

pub all_below_append : (n : ℕ) (xs ys : List ℕ) → AllBelow n xs → AllBelow n ys → AllBelow n (xs ++ ys)
all_below_append n [] ys p q = q
all_below_append n (x ∷ xs) ys p q = (p.0, all_below_append n xs ys p.1 q)

pub all_below_numbers : (a n : ℕ) → AllBelow (a + n) (numbers_from a n)
all_below_numbers a zero = tt
all_below_numbers a (suc n) = (omega arith, subst (λ (m : ℕ). AllBelow m (numbers_from (suc a) n)) (omega arith) (all_below_numbers (suc a) n))

all_above_numbers : (m a n : ℕ) → m < a → AllAbove m (numbers_from a n)
all_above_numbers m a zero l = tt
all_above_numbers m a (suc n) l = (l, all_above_numbers m (suc a) n (omega arith))

pub rises_numbers : (a n : ℕ) → Rises (numbers_from a n)
rises_numbers a zero = tt
rises_numbers a (suc n) = (all_above_numbers a (suc a) n (omega arith), rises_numbers (suc a) n)

all_above_append : (m : ℕ) (xs ys : List ℕ) → AllAbove m xs → AllAbove m ys → AllAbove m (xs ++ ys)
all_above_append m [] ys p q = q
all_above_append m (x ∷ xs) ys p q = (p.0, all_above_append m xs ys p.1 q)

-- a list that rises and stays below n, and then numbers from n on
pub rises_then : (n count : ℕ) (xs : List ℕ) → Rises xs → AllBelow n xs → Rises (xs ++ numbers_from n count)
rises_then n count [] r b = rises_numbers n count
rises_then n count (x ∷ xs) r b = (all_above_append x xs (numbers_from n count) r.0 (all_above_numbers x n count b.0), rises_then n count xs r.1 b.1)

all_above_put_in : (m p : ℕ) (ys : List ℕ) → m < p → AllAbove m ys → AllAbove m (put_in p ys)
all_above_put_in m p [] l h = (l, tt)
all_above_put_in m p (q ∷ qs) l h = elim (nat_lt p q) as (λ b. AllAbove m (if b then p ∷ q ∷ qs else q ∷ put_in p qs)) [
  | true ↦ (l, h)
  | false ↦ (h.0, all_above_put_in m p qs l h.1)
]

rises_put_in : (p : ℕ) (ys : List ℕ) → Rises ys → times p ys ≡ 0 → Rises (put_in p ys)
rises_put_in p [] r none = (tt, tt)
rises_put_in p (q ∷ qs) r none = at (rises_put_in p qs r.1 (omega arith)) (nat_lt p q) refl
  where
    at : Rises (put_in p qs) → (b : Bool) → nat_lt p q ≡ b → Rises (if b then p ∷ q ∷ qs else q ∷ put_in p qs)
    at rest true is = let l : p < q = ltb-true _ _ is in ((l, all_above_less q p qs (omega arith) r.0), r)
    at rest false is =
        let le : q ≤ p = ltb-false _ _ is in
        let apart : q ≢ p = λ e. let one : same p q ≡ 1 = rw e (same_self p) in absurd (omega arith) in
        (all_above_put_in q p qs (omega arith) r.0, rest)

pub rises_woven : (xs ys : List ℕ) → Rises xs → Rises ys → ((k : ℕ) → times k xs + times k ys ≤ 1) → Rises (woven xs ys)
rises_woven [] ys r s once = s
rises_woven (x ∷ xs) ys r s once =
    let a = once x in
    let one = same_self x in
    let e = times_woven x xs ys in
    rises_put_in x (woven xs ys) (rises_woven xs ys r.1 s (λ k. let b = once k in omega arith)) (omega arith)

all_below_put_in : (n p : ℕ) (ys : List ℕ) → p < n → AllBelow n ys → AllBelow n (put_in p ys)
all_below_put_in n p [] l h = (l, tt)
all_below_put_in n p (q ∷ qs) l h = elim (nat_lt p q) as (λ b. AllBelow n (if b then p ∷ q ∷ qs else q ∷ put_in p qs)) [
  | true ↦ (l, h)
  | false ↦ (h.0, all_below_put_in n p qs l h.1)
]

pub all_below_woven : (n : ℕ) (xs ys : List ℕ) → AllBelow n xs → AllBelow n ys → AllBelow n (woven xs ys)
all_below_woven n [] ys p q = q
all_below_woven n (x ∷ xs) ys p q = all_below_put_in n x (woven xs ys) p.0 (all_below_woven n xs ys p.1 q)

-- no number below all of a list stands in it
times_above : (k m : ℕ) (xs : List ℕ) → k ≤ m → AllAbove m xs → times k xs ≡ 0
times_above k m [] le h = refl
times_above k m (x ∷ xs) le h = let a = h.0 in let n = same_not k x (λ e. omega arith) in let r = times_above k m xs le h.1 in omega arith

-- a list that rises and has each number from a up to a + n once has just these
rising_is : (a n : ℕ) (xs : List ℕ) → Rises xs → ((k : ℕ) → times k xs + below k a ≡ below k (a + n)) → xs ≡ numbers_from a n
rising_is a zero [] r once = refl
rising_is a zero (x ∷ xs) r once = let h = once x in let s = same_self x in let e : below x (a + 0) ≡ below x a = ap (below x) (add-zero a) in absurd (omega arith)
rising_is a (suc n) [] r once = let h = once a in let p = below_no a a (omega arith) in let q = below_yes a (a + suc n) (omega arith) in absurd (omega arith)
rising_is a (suc n) (x ∷ xs) r once = cases (cases_lt a x) (cases_lt x a) (rising_is (suc a) n xs r.1)
  where
    cases : (a < x) ⊎ (x ≤ a) → (x < a) ⊎ (a ≤ x) → (((k : ℕ) → times k xs + below k (suc a) ≡ below k (suc a + n)) → xs ≡ numbers_from (suc a) n) → x ∷ xs ≡ a ∷ numbers_from (suc a) n
    cases (inl above) _ rest =
        let h = once a in
        let none : times a (x ∷ xs) ≡ 0 = let p = same_not a x (λ e. omega arith) in let q = times_above a x xs (omega arith) r.0 in omega arith in
        let p = below_no a a (omega arith) in
        let q = below_yes a (a + suc n) (omega arith) in
        absurd (omega arith)
    cases (inr _) (inl under) rest =
        let h = once x in
        let s = same_self x in
        let p = below_yes x a under in
        let q = below_le x (a + suc n) in
        absurd (omega arith)
    cases (inr le) (inr ge) rest =
        let is : x ≡ a = omega arith in
        λ i. is i ∷ rest (λ k. let h = once k in let e : below k (a + suc n) ≡ below k (suc a + n) = ap (below k) (omega arith) in let f : same k x ≡ same k a = ap (same k) is in omega arith) i

pub rising_all : (n : ℕ) (xs : List ℕ) → Rises xs → ((k : ℕ) → times k xs ≡ below k n) → xs ≡ numbers_from 0 n
rising_all n xs r once = rising_is 0 n xs r (λ k. let h = once k in let e : below k (0 + n) ≡ below k n = ap (below k) (omega arith) in omega arith)
