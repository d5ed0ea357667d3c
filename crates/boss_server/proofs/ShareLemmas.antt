-- The shares of all workers are all connections.
use Rattle.std.proofs.Common.{◌≡◌, ◌⊎◌, inl, inr, ℕ, zero, suc, ◌+◌, ◌-◌, ◌*◌, ◌/◌, ◌%◌, ◌<◌, ◌≤◌, Bool, true, false, cond, nat_lt, min, refl, ap, sym, ◌∙◌, subst, arith}
use Rattle.std.proofs.lemmas.Bool.{cases_lt}
use Rattle.std.proofs.lemmas.Bool.Decides.{nat_tests}
use Rattle.boss_server.specs.Shares.{share_of}

-- the shares of the workers before this one
abbrev pub shares_before : ℕ → ℕ → ℕ → ℕ
shares_before connections workers zero = 0
shares_before connections workers (suc number) = shares_before connections workers number + share_of connections workers number

-- so many have the even share, and the first ones of them one more
shares-low : (connections workers number : ℕ) → number ≤ connections % workers → shares_before connections workers number ≡ number * (connections / workers) + number
shares-low connections workers zero low = omega arith
shares-low connections workers (suc number) low =
    let before = shares-low connections workers number (omega arith) in
    grind (arith, nat_tests, before)

shares-high : (connections workers number : ℕ) → connections % workers ≤ number → shares_before connections workers number ≡ number * (connections / workers) + connections % workers
shares-high connections workers zero high = omega arith
shares-high connections workers (suc number) high = step (cases_lt number (connections % workers)) (λ above. shares-high connections workers number above)
  where
    step : (number < connections % workers) ⊎ (connections % workers ≤ number) →
        (connections % workers ≤ number → shares_before connections workers number ≡ number * (connections / workers) + connections % workers) → shares_before connections workers (suc number) ≡ suc number * (connections / workers) + connections % workers
    step (inl below) rest = let all : suc number ≡ connections % workers = omega arith in shares-low connections workers (suc number) (omega arith) ∙ ap (λ n. suc number * (connections / workers) + n) all
    step (inr above) rest =
        let before = rest above in
        grind (arith, nat_tests, before)

pub shares-all : (connections workers : ℕ) → 1 ≤ workers → shares_before connections workers workers ≡ connections
shares-all connections workers some =
    let split : workers * (connections / workers) + connections % workers ≡ connections = omega arith in
    shares-high connections workers workers (omega arith) ∙ split
