-- The parts of a pass go in pairs.
use Rattle.std.proofs.Common.{◌≡◌, ℕ, ◌+◌, ◌-◌, ◌*◌, ◌/◌, ◌≤◌, ◌<◌, arith}
use Rattle.boss_shared.specs.Together.{IsPaired}

-- all parts of a new manager, for so many callers
pub paired_twice : (parts callers : ℕ) → parts ≡ 2 * callers → 0 < callers → IsPaired parts
paired_twice parts callers is some = (callers, is, omega arith)

-- a join adds whole pairs
pub paired_sum : (n m : ℕ) → IsPaired n → IsPaired m → IsPaired (n + m)
paired_sum n m first second =
    let k : ℕ = first.0 in
    let l : ℕ = second.0 in
    let a : n ≡ 2 * k = first.1 in
    let b : m ≡ 2 * l = second.1 in
    let c : 1 ≤ k = first.2 in
    (k + l, omega arith, omega arith)

-- a split takes one pair away, and leaves one or more
pub paired_less : (n : ℕ) → IsPaired n → 2 ≤ n / 2 → IsPaired (n - 1 - 1)
paired_less n paired two =
    let k : ℕ = paired.0 in
    let a : n ≡ 2 * k = paired.1 in
    (k - 1, omega arith, omega arith)
