-- The least of a moment and the starts of reversions, taken one after another.
use Rattle.std.proofs.Common.{ℕ, ◌≤◌, min, List, [], ◌∷◌, arith}
use Rattle.std.specs.List.{AllByRecursion}
use Rattle.boss_model.specs.declared.state.Pending.{Pending}

abbrev pub least_from : ℕ → List Pending → ℕ
least_from least [] = least
least_from least (r ∷ rs) = least_from (min least r.start) rs

pub least-early : (least : ℕ) (rs : List Pending) → least_from least rs ≤ least
least-early least [] = omega arith
least-early least (r ∷ rs) = let early = least-early (min least r.start) rs in omega (arith, early)

pub least-started : (least : ℕ) (rs : List Pending) → AllByRecursion (λ r. least_from least rs ≤ r.start) rs
least-started least [] = tt
least-started least (r ∷ rs) = ((let early = least-early (min least r.start) rs in omega (arith, early)), least-started (min least r.start) rs)

pub least-most : (by least : ℕ) (rs : List Pending) → by ≤ least → AllByRecursion (λ r. by ≤ r.start) rs → by ≤ least_from least rs
least-most by least [] early started = early
least-most by least (r ∷ rs) early started = let first : by ≤ r.start = started.0 in least-most by (min least r.start) rs (omega (arith, early, first)) started.1
