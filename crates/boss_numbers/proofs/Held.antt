-- What 64 and 128 bits hold.
use Rattle.std.proofs.Common.{◌≡◌, ◌^◌, ◌≤◌, ◌+◌, ◌*◌, ℤ, pos, negsuc, ◌+ℤ◌, ◌*ℤ◌, Bool, true, false, cond, Some, None, refl, arith, w64}
use Rattle.std.specs.Prelude.{FitsSigned, unsigned_abs, int_le}
use Rattle.std.specs.Int.{w128, cast_signed, cast_unsigned, int_div_euclid}
use Rattle.std.proofs.lemmas.Int.{ints, to_z-of_z, unsigned_abs-mul, fits_signed_mul, fits_signed_from_abs}
use Rattle.std.proofs.Math.Nat.{mul-le-mul}
use Rattle.boss_model.specs.declared.places.Form.{Form}
use Rattle.boss_model.specs.declared.places.Scale.{Scale}
use Rattle.boss_numbers.specs.Scales.{is_held, if_held, numerator, whole, fits, has_form}

pub abs-most : (z : ℤ) → FitsSigned w64 z → unsigned_abs z ≤ 2 ^ 63
abs-most (pos n) fits = let h = fits.sfits in omega arith
abs-most (negsuc n) fits = let h = fits.sfits in omega arith

abs-sum : (x y : ℤ) → unsigned_abs (x +ℤ y) ≤ unsigned_abs x + unsigned_abs y
abs-sum x y = omega (arith, ints)

-- a product of these two, and its sum with another such one, have room in 128 bits
pub product-fits : (a b : ℤ) → unsigned_abs a ≤ 2 ^ 63 → unsigned_abs b ≤ 2 ^ 63 → FitsSigned w128 (a *ℤ b)
product-fits a b p q = fits_signed_mul w128 a b (2 ^ 63) (2 ^ 63) p q (omega arith)

pub sum-fits : (a b c d : ℤ) → unsigned_abs a ≤ 2 ^ 63 → unsigned_abs b ≤ 2 ^ 16 → unsigned_abs c ≤ 2 ^ 63 → unsigned_abs d ≤ 2 ^ 63
    → FitsSigned w128 (a *ℤ b +ℤ c *ℤ d)
sum-fits a b c d p q r s =
    let first : unsigned_abs a * unsigned_abs b ≤ 2 ^ 63 * 2 ^ 16 = mul-le-mul p q in
    let second : unsigned_abs c * unsigned_abs d ≤ 2 ^ 63 * 2 ^ 63 = mul-le-mul r s in
    let same = unsigned_abs-mul a b in
    let same' = unsigned_abs-mul c d in
    let sum = abs-sum (a *ℤ b) (c *ℤ d) in
    fits_signed_from_abs w128 (a *ℤ b +ℤ c *ℤ d) (omega arith)

-- the same as the code computes it
module _ (a b c d : ℤ) (p : unsigned_abs a ≤ 2 ^ 63) (q : unsigned_abs b ≤ 2 ^ 16) (r : unsigned_abs c ≤ 2 ^ 63) (s : unsigned_abs d ≤ 2 ^ 63) where
  alone : (x : ℤ) → unsigned_abs x ≤ 2 ^ 63 → cast_signed w128 (cast_unsigned w128 x) ≡ x
  alone x h = to_z-of_z w128 x (fits_signed_from_abs w128 x (omega arith))

  product : (x y : ℤ) → unsigned_abs x ≤ 2 ^ 63 → unsigned_abs y ≤ 2 ^ 63
      → cast_signed w128 (cast_unsigned w128 (cast_signed w128 (cast_unsigned w128 x) *ℤ cast_signed w128 (cast_unsigned w128 y))) ≡ x *ℤ y
  product x y h k = rw (alone x h, alone y k) (to_z-of_z w128 (x *ℤ y) (product-fits x y h k))

  pub computed-fits :
      FitsSigned w128 (cast_signed w128 (cast_unsigned w128 (cast_signed w128 (cast_unsigned w128 a) *ℤ cast_signed w128 (cast_unsigned w128 b)))
      +ℤ cast_signed w128 (cast_unsigned w128 (cast_signed w128 (cast_unsigned w128 c) *ℤ cast_signed w128 (cast_unsigned w128 d))))
  computed-fits = rw (product a b p (omega arith), product c d r s) (sum-fits a b c d p q r s)

  pub computed :
      cast_signed w128 (cast_unsigned w128
      (cast_signed w128 (cast_unsigned w128 (cast_signed w128 (cast_unsigned w128 a) *ℤ cast_signed w128 (cast_unsigned w128 b)))
      +ℤ cast_signed w128 (cast_unsigned w128 (cast_signed w128 (cast_unsigned w128 c) *ℤ cast_signed w128 (cast_unsigned w128 d)))))
      ≡ a *ℤ b +ℤ c *ℤ d
  computed = rw (product a b p (omega arith), product c d r s) (to_z-of_z w128 (a *ℤ b +ℤ c *ℤ d) (sum-fits a b c d p q r s))

-- twice a number and what it is divided by, and twice that
module _ (n per : ℤ) (p : FitsSigned w64 n) (q : FitsSigned w64 per) where
  wide : (x : ℤ) → unsigned_abs x ≤ 2 ^ 66 → cast_signed w128 (cast_unsigned w128 x) ≡ x
  wide x h = to_z-of_z w128 x (fits_signed_from_abs w128 x (omega arith))

  double : (x : ℤ) → unsigned_abs x ≤ 2 ^ 63 → unsigned_abs (x *ℤ pos 2) ≤ 2 ^ 64
  double x h = let same = unsigned_abs-mul x (pos 2) in omega arith

  pub nearest-computed :
      int_div_euclid
      (cast_signed w128 (cast_unsigned w128
      (cast_signed w128 (cast_unsigned w128 (cast_signed w128 (cast_unsigned w128 n) *ℤ pos 2)) +ℤ cast_signed w128 (cast_unsigned w128 per))))
      (cast_signed w128 (cast_unsigned w128 (cast_signed w128 (cast_unsigned w128 per) *ℤ pos 2)))
      ≡ int_div_euclid (n *ℤ pos 2 +ℤ per) (per *ℤ pos 2)
  nearest-computed =
      let few = abs-most n p in
      let few' = abs-most per q in
      let twice = double n few in
      let twice' = double per few' in
      let sum = abs-sum (n *ℤ pos 2) per in
      rw (wide n (omega arith), wide per (omega arith), wide (n *ℤ pos 2) (omega arith), wide (per *ℤ pos 2) (omega arith), wide (n *ℤ pos 2 +ℤ per) (omega arith)) refl

-- a number that was given is the one that was held
pub some-held : (z n : ℤ) → if_held z ≡ Some n → (is_held z ≡ true) × (z ≡ n)
some-held z n given = by (is_held z) given
  where
    by : (b : Bool) → cond b (Some z) None ≡ Some n → (b ≡ true) × (z ≡ n)
    by true e = (refl, cc)
    by false e = cc

pub none-held : (z : ℤ) → if_held z ≡ None → is_held z ≡ false
none-held z given = by (is_held z) given
  where
    by : (b : Bool) → cond b (Some z) None ≡ None → b ≡ false
    by true e = cc
    by false e = refl

-- a value has a form where what it is told as fits
pub form-told : (form : Form) (scale : Scale) (value n : ℤ) (fit : Bool) → int_le (pos 1) scale.per ≡ true → if_held (numerator scale value) ≡ Some n
    → fit ≡ fits form (whole scale.round n scale.per) → fit ≡ has_form form scale value
form-told form scale value n fit some given fits-so =
    let held = some-held (numerator scale value) n given in rw (some, held.0, held.1) fits-so
