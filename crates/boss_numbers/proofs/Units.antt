-- The units of bits, and those of the next bits.
use Rattle.std.proofs.Common.{◌≡◌, ℕ, zero, suc, ◌+◌, ◌-◌, ◌*◌, ◌/◌, ◌%◌, ◌^◌, ◌<◌, ◌≤◌, true, false, cond, ap, sym, ◌∙◌, arith, ⊎_elim}
use Rattle.std.specs.Prelude.{nat_lt}
use Rattle.std.proofs.lemmas.Nat.{pow_pos, pow-add, div-mul-add, mod-mul-add}
use Rattle.std.proofs.lemmas.Bool.{cases_lt}
use Rattle.std.proofs.lemmas.Bool.Decides.{nat_tests}
use Rattle.std.proofs.Math.Nat.{mul-lt-mul_of_pos_right}
use Rattle.boss_numbers.specs.Nearest.{units}

-- bits of an exponent and a fraction
pub units-at : (e f : ℕ) → f < 8388608 → units ((e + 1) * 8388608 + f) ≡ (8388608 + f) * 2 ^ e
units-at e f small =
    let high : ((e + 1) * 8388608 + f) / 8388608 ≡ e + 1 = div-mul-add (e + 1) 8388608 f small in
    let low : ((e + 1) * 8388608 + f) % 8388608 ≡ f = mod-mul-add (e + 1) 8388608 f small in
    let big : nat_lt ((e + 1) * 8388608 + f) 8388608 ≡ false = grind (arith, nat_tests) in
    let less : e + 1 - 1 ≡ e = omega arith in
    ap (λ b. cond b ((e + 1) * 8388608 + f) ((8388608 + ((e + 1) * 8388608 + f) % 8388608) * 2 ^ (((e + 1) * 8388608 + f) / 8388608 - 1))) big
    ∙ ap (λ k. (8388608 + k) * 2 ^ (((e + 1) * 8388608 + f) / 8388608 - 1)) low
    ∙ ap (λ k. (8388608 + f) * 2 ^ (k - 1)) high
    ∙ ap (λ k. (8388608 + f) * 2 ^ k) less

-- and of the next ones
pub units-next : (e f : ℕ) → f < 8388608 → units ((e + 1) * 8388608 + f + 1) ≡ (8388608 + f + 1) * 2 ^ e
units-next e f small = ⊎_elim
    (λ less. let grouped : (e + 1) * 8388608 + (f + 1) ≡ (e + 1) * 8388608 + f + 1 = omega arith in
    let grouped' : 8388608 + (f + 1) ≡ 8388608 + f + 1 = omega arith in
    ap units (sym grouped) ∙ units-at e (f + 1) less ∙ ap (λ k. k * 2 ^ e) grouped')
    (λ last. let carried : (e + 1) * 8388608 + f + 1 ≡ (e + 1 + 1) * 8388608 + 0 = omega arith in
    let whole : 8388608 + f + 1 ≡ 16777216 = omega arith in
    let double : (8388608 + 0) * 2 ^ (e + 1) ≡ 16777216 * 2 ^ e = ap (λ p. 8388608 * p) (pow-add 2 e 1) ∙ omega arith in
    ap units carried ∙ units-at (e + 1) 0 (omega arith) ∙ double ∙ ap (λ k. k * 2 ^ e) (sym whole))
    (cases_lt (f + 1) 8388608)

units-small : (n : ℕ) → n < 8388608 → units n ≡ n
units-small n small = ap (λ b. cond b n ((8388608 + n % 8388608) * 2 ^ (n / 8388608 - 1))) test
  where
    test : nat_lt n 8388608 ≡ true
    test = grind (arith, nat_tests)

rises-at : (e f n : ℕ) → f < 8388608 → n ≡ (e + 1) * 8388608 + f → units n < units (n + 1)
rises-at e f n small is =
    let here : units n ≡ (8388608 + f) * 2 ^ e = ap units is ∙ units-at e f small in
    let next : units (n + 1) ≡ (8388608 + f + 1) * 2 ^ e = ap (λ k. units (k + 1)) is ∙ units-next e f small in
    let more : (8388608 + f) * 2 ^ e < (8388608 + f + 1) * 2 ^ e = mul-lt-mul_of_pos_right (omega arith) (pow_pos e) in
    omega arith

units-step : (n : ℕ) → units n < units (n + 1)
units-step n = ⊎_elim
    (λ small. let here : units n ≡ n = units-small n (omega arith) in
    let next : units (n + 1) ≡ n + 1 = units-small (n + 1) small in omega arith)
    (λ great. ⊎_elim
    (λ last. let here : units n ≡ n = units-small n last in
    let is : n + 1 ≡ (0 + 1) * 8388608 + 0 = omega arith in
    let next : units (n + 1) ≡ (8388608 + 0) * 2 ^ 0 = ap units is ∙ units-at 0 0 (omega arith) in
    omega arith)
    (λ great. rises-at (n / 8388608 - 1) (n % 8388608) n (omega arith) (omega arith)) (cases_lt n 8388608))
    (cases_lt (n + 1) 8388608)

rises-by : (n k : ℕ) → units n < units (n + suc k)
rises-by n zero =
    let one : n + 1 ≡ n + suc zero = omega arith in
    let same : units (n + 1) ≡ units (n + suc zero) = ap units one in
    let step : units n < units (n + 1) = units-step n in
    omega arith
rises-by n (suc k) =
    let before : units n < units (n + suc k) = rises-by n k in
    let step : units (n + suc k) < units (n + suc k + 1) = units-step (n + suc k) in
    let one : n + suc k + 1 ≡ n + suc (suc k) = omega arith in
    let same : units (n + suc k + 1) ≡ units (n + suc (suc k)) = ap units one in
    omega arith

-- greater bits stand for more
pub units-less : (a b : ℕ) → a < b → units a < units b
units-less a b less =
    let is : a + suc (b - a - 1) ≡ b = omega arith in
    let same : units (a + suc (b - a - 1)) ≡ units b = ap units is in
    let rises : units a < units (a + suc (b - a - 1)) = rises-by a (b - a - 1) in
    omega arith

pub units-rise : (a b : ℕ) → a ≤ b → units a ≤ units b
units-rise a b le = ⊎_elim (λ less. let h : units a < units b = units-less a b less in omega arith)
    (λ ge. let same : a ≡ b = omega arith in let h : units a ≡ units b = ap units same in omega arith) (cases_lt a b)
