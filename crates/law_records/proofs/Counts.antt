-- Items of which each has a slot of its own are as many as the parts in whose slots they are.
use Rattle.std.proofs.Common.{◌≡◌, ℕ, ◌+◌, ◌==◌, List, [], ◌∷◌, length, map, Bool, true, false, not, ◌&&◌, ◌||◌, cond, refl, ap, sym, ◌∙◌, arith}
use Rattle.std.specs.List.{filter, list_any, AllByRecursion}
use Rattle.std.proofs.lemmas.Bool.Decides.{nat_tests}
use Rattle.boss_model.specs.Lists.{member}
use Rattle.boss_model.specs.Order.{comes_before}
use Rattle.boss_model.specs.Records.{Part}
use Rattle.boss_model.specs.Sound.{Rising, Distinct}
use Rattle.law_time.proofs.Filters.{filter-same, filter-none, each-always}
use Rattle.law_time.proofs.Orders.{each-map, each-both, Rising-filter}
use Rattle.law_effects.proofs.Lasting.{any-filter}
use Rattle.law_records.proofs.Lookups.{any-none, any-alike}

pub each-kept : {X : Type 0} (P : X → Type 0) (test : X → Bool) (xs : List X) → AllByRecursion (λ x. test x ≡ true → P x) xs → AllByRecursion P (filter test xs)
each-kept P test [] all = tt
each-kept {X = X} P test (x ∷ xs) all = by (test x) refl (each-kept P test xs all.1)
  where
    by : (b : Bool) → test x ≡ b → AllByRecursion P (filter test xs) → AllByRecursion P (cond b (x ∷ filter test xs) (filter test xs))
    by true is rest = (all.0 is, rest)
    by false is rest = rest

-- no later part is on the point
pub distinct-each : (point : ℕ) (parts : List Part) → member point (map (λ part. part.point) parts) ≡ false → AllByRecursion (λ part. (part.point == point) ≡ false) parts
distinct-each point [] none = tt
distinct-each point (part ∷ parts) none = (grind (arith), distinct-each point parts (grind (arith)))

-- of parts on points of their own, one that is on the point of a slot is in the slot if any is
pub only : (parts : List Part) → Distinct (map (λ part. part.point) parts) →
    AllByRecursion (λ part. (point priority : ℕ) → list_any (λ p. (point == p.point) && (priority == p.priority)) parts ≡ true → (point == part.point) ≡ true →
    (priority == part.priority) ≡ true) parts
only [] distinct = tt
only (p ∷ ps) distinct = (
  (λ point priority some here.
      let none : list_any (λ q. (point == q.point) && (priority == q.priority)) ps ≡ false = any-none (λ q. (point == q.point) && (priority == q.priority)) ps
      (each-map (λ q. (q.point == p.point) ≡ false) (λ q. ((point == q.point) && (priority == q.priority)) ≡ false) (λ q other. grind (arith, nat_tests)) ps
      (distinct-each p.point ps distinct.0)) in
      grind (arith, nat_tests)),
  each-map
      (λ part. ((part.point == p.point) ≡ false) × ((point priority : ℕ) → list_any (λ q. (point == q.point) && (priority == q.priority)) ps ≡ true → (point == part.point) ≡ true →
      (priority == part.priority) ≡ true))
      (λ part. (point priority : ℕ) → list_any (λ q. (point == q.point) && (priority == q.priority)) (p ∷ ps) ≡ true → (point == part.point) ≡ true → (priority == part.priority) ≡ true)
      (λ part both point priority some here.
      let other : (part.point == p.point) ≡ false = both.0 in
      both.1 point priority (grind (arith, nat_tests)) here) ps
      (each-both (λ part. (part.point == p.point) ≡ false)
      (λ part. (point priority : ℕ) → list_any (λ q. (point == q.point) && (priority == q.priority)) ps ≡ true → (point == part.point) ≡ true → (priority == part.priority) ≡ true) ps
      (distinct-each p.point ps distinct.0) (only ps distinct.1)),
)

split : {X : Type 0} (test : X → Bool) (xs : List X) → length xs ≡ length (filter test xs) + length (filter (λ x. not (test x)) xs)
split test [] = refl
split {X = X} test (x ∷ xs) = by (test x) (split test xs)
  where
    by : (b : Bool) → length xs ≡ length (filter test xs) + length (filter (λ y. not (test y)) xs) →
        length (x ∷ xs) ≡ length (cond b (x ∷ filter test xs) (filter test xs)) + length (cond (not b) (x ∷ filter (λ y. not (test y)) xs) (filter (λ y. not (test y)) xs))
    by true rest = omega (arith)
    by false rest = omega (arith)

module _ {X : Type 0} (point_of priority_of : X → ℕ) where
  abbrev slot_rank : X → List ℕ
  slot_rank x = point_of x ∷ priority_of x ∷ []

  abbrev pub at : Part → X → Bool
  at part x = (point_of x == part.point) && (priority_of x == part.priority)

  one-at : (part : Part) (xs : List X) → Rising slot_rank xs → length (filter (at part) xs) ≡ cond (list_any (at part) xs) 1 0
  one-at part [] rising = refl
  one-at part (x ∷ xs) rising = by (at part x) refl (one-at part xs rising.1)
    where
      by : (b : Bool) → at part x ≡ b → length (filter (at part) xs) ≡ cond (list_any (at part) xs) 1 0 →
          length (cond b (x ∷ filter (at part) xs) (filter (at part) xs)) ≡ cond (b || list_any (at part) xs) 1 0
      by true is rest =
          let none : filter (at part) xs ≡ [] = filter-none (at part) xs
          (each-map (λ y. comes_before (slot_rank y) (slot_rank x) ≡ false) (λ y. at part y ≡ false)
          (λ y after. let later : comes_before (point_of y ∷ priority_of y ∷ []) (point_of x ∷ priority_of x ∷ []) ≡ false = after in grind (arith, nat_tests)) xs rising.0) in
          ap (λ ys. length (x ∷ ys)) none
      by false is rest = rest

  -- what is not in the slot of this part is in the slot of another
  others-at : (p : Part) (ps : List Part) (ys : List X) → AllByRecursion (λ y. list_any (λ part. at part y) (p ∷ ps) ≡ true) ys →
      AllByRecursion (λ y. list_any (λ part. at part y) ps ≡ true) (filter (λ y. not (at p y)) ys)
  others-at p ps ys all = each-kept (λ y. list_any (λ part. at part y) ps ≡ true) (λ y. not (at p y)) ys
      (each-map (λ y. list_any (λ part. at part y) (p ∷ ps) ≡ true) (λ y. not (at p y) ≡ true → list_any (λ part. at part y) ps ≡ true)
      (λ y some other. by (at p y) (list_any (λ part. at part y) ps) some other) ys all)
    where
      by : (here rest : Bool) → (here || rest) ≡ true → not here ≡ true → rest ≡ true
      by true rest some other = absurd (cc (sym other))
      by false rest some other = some

  pub counted : (parts : List Part) → Distinct (map (λ part. part.point) parts) → (ys : List X) → Rising slot_rank ys →
      AllByRecursion (λ y. list_any (λ part. at part y) parts ≡ true) ys → length ys ≡ length (filter (λ part. list_any (at part) ys) parts)
  counted [] distinct [] rising all = refl
  counted [] distinct (y ∷ ys) rising all = absurd (cc (sym all.0))
  counted (p ∷ ps) distinct ys rising all =
      let zs = filter (λ y. not (at p y)) ys in
      let rest : length zs ≡ length (filter (λ part. list_any (at part) zs) ps) = counted ps distinct.1 zs (Rising-filter slot_rank (λ y. not (at p y)) ys rising) (others-at p ps ys all) in
      let same : filter (λ part. list_any (at part) zs) ps ≡ filter (λ part. list_any (at part) ys) ps =
      filter-same (λ part. list_any (at part) zs) (λ part. list_any (at part) ys) ps
      (each-map (λ part. (part.point == p.point) ≡ false) (λ part. list_any (at part) zs ≡ list_any (at part) ys)
      (λ part other. any-filter (at part) (λ y. not (at p y)) ys
      ∙ any-alike (λ y. not (at p y) && at part y) (at part) ys (each-always (λ y. (not (at p y) && at part y) ≡ at part y) (λ y. grind (arith, nat_tests)) ys)) ps
      (distinct-each p.point ps distinct.0)) in
      split (at p) ys ∙ (λ i. one-at p ys rising i + (rest ∙ ap length same) i) ∙ by (list_any (at p) ys)
    where
      by : (b : Bool) → cond b 1 0 + length (filter (λ part. list_any (at part) ys) ps)
          ≡ length (cond b (p ∷ filter (λ part. list_any (at part) ys) ps) (filter (λ part. list_any (at part) ys) ps))
      by true = omega (arith)
      by false = omega (arith)
