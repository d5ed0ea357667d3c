-- The bits on either side of a number, and which of the two is nearer.
use Rattle.std.proofs.Common.{◌≡◌, ◌≢◌, ℕ, ◌+◌, ◌-◌, ◌*◌, ◌/◌, ◌%◌, ◌^◌, ◌<◌, ◌≤◌, Bool, true, false, cond, refl, ap, sym, ◌∙◌, subst, arith, ⊎_elim}
use Rattle.std.specs.Prelude.{nat_lt, nat_eq, ◌||◌, ◌&&◌}
use Rattle.std.proofs.lemmas.Bool.{cases_lt, cond_both}
use Rattle.std.proofs.lemmas.Bool.Decides.{nat_tests}
use Rattle.std.proofs.lemmas.Nat.{pow_pos, mul-lt, div-add-mod', div_below, le-div, mod_below}
use Rattle.std.proofs.Math.Nat.{mul_assoc, mul_comm, add-mul, mul-le-mul_right, mul-lt-mul_of_pos_right, le_of_mul-le-mul_right, lt_of_mul-lt-mul_right, eq_of_mul-eq-mul_right}
use Rattle.boss_numbers.specs.Nearest.{units, distance, IsNearest, rounded}
use Rattle.boss_numbers.proofs.Units.{units-at, units-next, units-rise, units-less}

-- a number between two others, by how far it is from each in parts of them
record Between (low x high rest parts : ℕ) : Type 0 where
  after : low ≤ x
  before : x ≤ high
  nearer : 2 * rest < parts → x - low < high - x
  further : parts < 2 * rest → high - x < x - low
  middle : 2 * rest ≡ parts → x - low ≡ high - x

between : (low x high d c quotient rest : ℕ) → 0 < d → 0 < c → rest < d → low * d ≡ quotient * d * c → high * d ≡ (quotient * d + d) * c
    → x * d ≡ (quotient * d + rest) * c → Between low x high rest d
between low x high d c quotient rest some scale less at-low at-high at-x =
    let qc : ℕ = quotient * d * c in
    let high-is : high * d ≡ quotient * d * c + d * c = at-high ∙ add-mul (quotient * d) d c in
    let x-is : x * d ≡ quotient * d * c + rest * c = at-x ∙ add-mul (quotient * d) rest c in
    let fewer : rest * c ≤ d * c = mul-le-mul_right c (omega arith) in
    let after' : low * d ≤ x * d = omega arith in
    let before' : x * d ≤ high * d = omega arith in
    let after : low ≤ x = le_of_mul-le-mul_right after' some in
    let before : x ≤ high = le_of_mul-le-mul_right before' some in
    let below : (x - low) * d ≡ rest * c = gap low x d (rest * c) after (omega arith) in
    let above : (high - x) * d ≡ d * c - rest * c = gap x high d (d * c - rest * c) before (omega arith) in
    let twice : 2 * rest * c ≡ rest * c + rest * c = twice-is rest c in
    record {
      after = after;
      before = before;
      nearer = λ h. let h' : 2 * rest * c < d * c = mul-lt-mul_of_pos_right h scale in let h'' : (x - low) * d < (high - x) * d = omega arith in lt_of_mul-lt-mul_right d h'';
      further = λ h. let h' : d * c < 2 * rest * c = mul-lt-mul_of_pos_right h scale in let h'' : (high - x) * d < (x - low) * d = omega arith in lt_of_mul-lt-mul_right d h'';
      middle = λ h. let h' : 2 * rest * c ≡ d * c = ap (λ k. k * c) h in eq_of_mul-eq-mul_right d some (x - low) (high - x) (omega arith);
    }
  where
    gap : (a b d k : ℕ) → a ≤ b → b * d ≡ a * d + k → (b - a) * d ≡ k
    gap a b d k le same =
        let sum : (a + (b - a)) * d ≡ a * d + (b - a) * d = add-mul a (b - a) d in
        let whole : a + (b - a) ≡ b = omega arith in
        let whole' : (a + (b - a)) * d ≡ b * d = ap (λ k. k * d) whole in
        omega arith

    twice-is : (a c : ℕ) → 2 * a * c ≡ a * c + a * c
    twice-is a c = mul_assoc 2 a c ∙ omega arith

-- the bits below a number and those above it: which of them is nearest
module _ (x d bits rest parts : ℕ) (some : 0 < d) (at : Between (units bits * d) x (units (bits + 1) * d) rest parts) where
  -- other bits are no nearer than one of these two
  lower : (other : ℕ) → other ≤ bits → units other * d ≤ units bits * d
  lower other le = mul-le-mul_right d (units-rise other bits le)

  upper : (other : ℕ) → bits + 1 ≤ other → units (bits + 1) * d ≤ units other * d
  upper other le = mul-le-mul_right d (units-rise (bits + 1) other le)

  strictly-lower : (other : ℕ) → other < bits → units other * d < units bits * d
  strictly-lower other less = mul-lt-mul_of_pos_right (units-less other bits less) some

  strictly-upper : (other : ℕ) → bits + 1 < other → units (bits + 1) * d < units other * d
  strictly-upper other less = mul-lt-mul_of_pos_right (units-less (bits + 1) other less) some

  -- the bits below, where the rest is no more than half
  keeps : 2 * rest ≤ parts → (2 * rest ≡ parts → bits % 2 ≡ 0) → IsNearest x d bits
  keeps little tie = record { nearest = nearest; even = even }
    where
      nearest : (other : ℕ) → distance (units bits * d) x ≤ distance (units other * d) x
      nearest other = ⊎_elim
          (λ less. let far : units other * d ≤ units bits * d = lower other (omega arith) in let after = at.after in omega arith)
          (λ ge. let far : units (bits + 1) * d ≤ units other * d = upper other ge in
          let after = at.after in let before = at.before in
          ⊎_elim (λ clear. let nearer : x - units bits * d < units (bits + 1) * d - x = at.nearer clear in omega arith)
          (λ tied. let middle : x - units bits * d ≡ units (bits + 1) * d - x = at.middle (omega arith) in omega arith) (cases_lt (2 * rest) parts))
          (cases_lt other (bits + 1))

      even : (other : ℕ) → other ≢ bits → distance (units other * d) x ≡ distance (units bits * d) x → bits % 2 ≡ 0
      even other apart same = ⊎_elim
          (λ less. let far : units other * d < units bits * d = strictly-lower other less in let after = at.after in absurd (omega arith))
          (λ ge. let far : units (bits + 1) * d ≤ units other * d = upper other (omega arith) in
          let after = at.after in let before = at.before in
          ⊎_elim (λ clear. let nearer : x - units bits * d < units (bits + 1) * d - x = at.nearer clear in absurd (omega arith))
          (λ tied. tie (omega arith)) (cases_lt (2 * rest) parts))
          (cases_lt other bits)

  -- the bits above, where it is no less
  moves : parts ≤ 2 * rest → (2 * rest ≡ parts → (bits + 1) % 2 ≡ 0) → IsNearest x d (bits + 1)
  moves much tie = record { nearest = nearest; even = even }
    where
      nearest : (other : ℕ) → distance (units (bits + 1) * d) x ≤ distance (units other * d) x
      nearest other = ⊎_elim
          (λ less. let far : units other * d ≤ units bits * d = lower other (omega arith) in
          let after = at.after in let before = at.before in
          ⊎_elim (λ clear. let further : units (bits + 1) * d - x < x - units bits * d = at.further clear in omega arith)
          (λ tied. let middle : x - units bits * d ≡ units (bits + 1) * d - x = at.middle (omega arith) in omega arith) (cases_lt parts (2 * rest)))
          (λ ge. let far : units (bits + 1) * d ≤ units other * d = upper other ge in let before = at.before in omega arith)
          (cases_lt other (bits + 1))

      even : (other : ℕ) → other ≢ bits + 1 → distance (units other * d) x ≡ distance (units (bits + 1) * d) x → (bits + 1) % 2 ≡ 0
      even other apart same = ⊎_elim
          (λ less. let far : units other * d ≤ units bits * d = lower other (omega arith) in
          let after = at.after in let before = at.before in
          ⊎_elim (λ clear. let further : units (bits + 1) * d - x < x - units bits * d = at.further clear in absurd (omega arith))
          (λ tied. tie (omega arith)) (cases_lt parts (2 * rest)))
          (λ ge. let far : units (bits + 1) * d < units other * d = strictly-upper other (omega arith) in let before = at.before in absurd (omega arith))
          (cases_lt other (bits + 1))

  rounds : IsNearest x d (rounded bits (2 * rest) parts)
  rounds = cond_both (nat_lt parts (2 * rest)) (bits + 1) (cond (nat_eq (2 * rest) parts && nat_eq (bits % 2) 1) (bits + 1) bits)
      (λ b. rounded bits (2 * rest) parts ≡ b → IsNearest x d (rounded bits (2 * rest) parts))
      (λ more same. let more' : parts < 2 * rest = grind (arith, nat_tests) in subst (λ b. IsNearest x d b) (sym same) (moves (omega arith) (λ tied. absurd (omega arith))))
      (λ less. cond_both (nat_eq (2 * rest) parts && nat_eq (bits % 2) 1) (bits + 1) bits (λ b. rounded bits (2 * rest) parts ≡ b → IsNearest x d (rounded bits (2 * rest) parts))
      (λ tied same. let tied' : 2 * rest ≡ parts = grind (arith, nat_tests) in let odd : bits % 2 ≡ 1 = grind (arith, nat_tests) in
      subst (λ b. IsNearest x d b) (sym same) (moves (omega arith) (λ _. omega arith)))
      (λ not same. let less' : 2 * rest ≤ parts = grind (arith, nat_tests) in
      subst (λ b. IsNearest x d b) (sym same) (keeps (omega arith) (λ tied. grind (arith, nat_tests)))))
      (rounded-is (nat_lt parts (2 * rest)) (nat_eq (2 * rest) parts && nat_eq (bits % 2) 1))
    where
      rounded-is : (a b : Bool) → cond (a || b) (bits + 1) bits ≡ cond a (bits + 1) (cond b (bits + 1) bits)
      rounded-is true b = refl
      rounded-is false b = refl

turned : (q p d k : ℕ) → q * p * d * k ≡ q * k * (p * d)
turned q p d k = ap (λ m. m * k) (mul_assoc q p d) ∙ mul_assoc q (p * d) k ∙ ap (λ m. q * m) (mul_comm (p * d) k) ∙ sym (mul_assoc q k (p * d))

-- a fraction and its exponent, of which the whole part has 24 bits
pub rounded-nearest : (x d n parts first e : ℕ) → 0 < d → 0 < parts → n * 2 ^ first ≡ x → parts * 2 ^ first ≡ d * 2 ^ e
    → 8388608 * parts ≤ n → n < 16777216 * parts → IsNearest x d (rounded (e * 8388608 + n / parts) (2 * (n % parts)) parts)
rounded-nearest x d n parts first e some some' whole scale least most =
    let q : ℕ = n / parts in
    let f : ℕ = n / parts - 8388608 in
    let q-least : 8388608 ≤ n / parts = le-div 8388608 n parts some' least in
    let q-most : n / parts < 16777216 = div_below n parts 16777216 some' most in
    let f-small : f < 8388608 = omega arith in
    let q-is : 8388608 + f ≡ n / parts = omega arith in
    let bits-are : e * 8388608 + n / parts ≡ (e + 1) * 8388608 + f = omega arith in
    let here : units (e * 8388608 + n / parts) ≡ n / parts * 2 ^ e = ap units bits-are ∙ units-at e f f-small ∙ ap (λ k. k * 2 ^ e) q-is in
    let next : units (e * 8388608 + n / parts + 1) ≡ (n / parts + 1) * 2 ^ e =
    ap (λ k. units (k + 1)) bits-are ∙ units-next e f f-small ∙ ap (λ k. (k + 1) * 2 ^ e) q-is in
    let split : n / parts * parts + n % parts ≡ n = div-add-mod' n parts in
    let x-is : x * parts ≡ (n / parts * parts + n % parts) * (2 ^ e * d) =
    ap (λ k. k * parts) (sym whole) ∙ mul_assoc n (2 ^ first) parts ∙ ap (λ k. n * k) (mul_comm (2 ^ first) parts ∙ scale ∙ mul_comm d (2 ^ e))
    ∙ ap (λ k. k * (2 ^ e * d)) (sym split) in
    let low-is : units (e * 8388608 + n / parts) * d * parts ≡ n / parts * parts * (2 ^ e * d) =
    ap (λ k. k * d * parts) here ∙ turned (n / parts) (2 ^ e) d parts in
    let one : (n / parts + 1) * parts ≡ n / parts * parts + parts = add-mul (n / parts) 1 parts ∙ omega arith in
    let high-is : units (e * 8388608 + n / parts + 1) * d * parts ≡ (n / parts * parts + parts) * (2 ^ e * d) =
    ap (λ k. k * d * parts) next ∙ turned (n / parts + 1) (2 ^ e) d parts ∙ ap (λ k. k * (2 ^ e * d)) one in
    rounds x d (e * 8388608 + n / parts) (n % parts) parts some
    (between (units (e * 8388608 + n / parts) * d) x (units (e * 8388608 + n / parts + 1) * d) parts (2 ^ e * d) (n / parts) (n % parts)
    some' (mul-lt 0 0 (2 ^ e) d (pow_pos e) some) (mod_below n parts some') low-is high-is x-is)

-- nothing is 0
pub nothing-nearest : (d : ℕ) → IsNearest (0 * 2 ^ 149) d 0
nothing-nearest d = record { nearest = λ other. omega arith; even = λ other apart same. refl }
