-- A value between two that have a form has one.
use Rattle.std.proofs.Common.{◌≡◌, ℕ, zero, suc, ◌*◌, ◌/◌, ◌<◌, ◌≤◌, ℤ, pos, negsuc, ◌+ℤ◌, ◌*ℤ◌, ◌≤ℤ◌, Bool, true, false, ◌&&◌, refl, arith}
use Rattle.std.specs.Prelude.{int_le}
use Rattle.std.specs.Int.{int_div_euclid}
use Rattle.std.proofs.lemmas.Int.{ints}
use Rattle.std.proofs.lemmas.Nat.{le-div}
use Rattle.std.proofs.Math.Nat.{mul-le-mul_right, div-mul-le_self}
use Rattle.boss_model.specs.declared.places.Form.{Form}
use Rattle.boss_model.specs.declared.places.Form.TheVariants.{Unsigned16, Signed16, Unsigned32, Signed32, Single}
use Rattle.boss_model.specs.declared.places.Round.{Round}
use Rattle.boss_model.specs.declared.places.Round.TheVariants.{Down, Nearest}
use Rattle.boss_model.specs.declared.places.Scale.{Scale}
use Rattle.boss_numbers.specs.Scales.{numerator, whole, is_between, is_held, fits, has_form}

-- ---- products and quotients rise

product-rises : (a b : ℤ) (times : ℕ) → a ≤ℤ b → (a *ℤ pos times) ≤ℤ (b *ℤ pos times)
product-rises (pos a) (pos b) times le =
    let h : a ≤ b = omega (arith, ints) in let m : a * times ≤ b * times = mul-le-mul_right times h in omega (arith, ints)
product-rises (pos a) (negsuc b) times le = absurd (omega (arith, ints))
product-rises (negsuc a) (pos b) times le = omega (arith, ints)
product-rises (negsuc a) (negsuc b) times le =
    let h : suc b ≤ suc a = omega (arith, ints) in let m : suc b * times ≤ suc a * times = mul-le-mul_right times h in omega (arith, ints)

parts-rise : (a b per : ℕ) → 0 < per → a ≤ b → a / per ≤ b / per
parts-rise a b per some le = let back : a / per * per ≤ a = div-mul-le_self a per in le-div (a / per) b per some (omega arith)

quotient-rises : (a b : ℤ) (per : ℕ) → 0 < per → a ≤ℤ b → int_div_euclid a (pos per) ≤ℤ int_div_euclid b (pos per)
quotient-rises (pos a) (pos b) per some le =
    let h : a ≤ b = omega (arith, ints) in let m : a / per ≤ b / per = parts-rise a b per some h in omega (arith, ints)
quotient-rises (pos a) (negsuc b) per some le = absurd (omega (arith, ints))
quotient-rises (negsuc a) (pos b) per some le = omega (arith, ints)
quotient-rises (negsuc a) (negsuc b) per some le =
    let h : b ≤ a = omega (arith, ints) in let m : b / per ≤ a / per = parts-rise b a per some h in omega (arith, ints)

numerator-rises : (scale : Scale) (a b : ℤ) → a ≤ℤ b → numerator scale a ≤ℤ numerator scale b
numerator-rises scale a b le = let m : (a *ℤ pos scale.times) ≤ℤ (b *ℤ pos scale.times) = product-rises a b scale.times le in omega (arith, ints)

whole-rises : (round : Round) (a b : ℤ) (per : ℕ) → 0 < per → a ≤ℤ b → whole round a (pos per) ≤ℤ whole round b (pos per)
whole-rises Down a b per some le = quotient-rises a b per some le
whole-rises Nearest a b per some le =
    let m : (a *ℤ pos 2) ≤ℤ (b *ℤ pos 2) = product-rises a b 2 le in
    quotient-rises (a *ℤ pos 2 +ℤ pos per) (b *ℤ pos 2 +ℤ pos per) (per * 2) (omega arith) (omega (arith, ints))

-- ---- bounds and forms

within : (least most a b n : ℤ) → is_between least most a ≡ true → is_between least most b ≡ true → a ≤ℤ n → n ≤ℤ b → is_between least most n ≡ true
within least most a b n low high from to = grind (arith, ints)

fits-between : (form : Form) (a b n : ℤ) → fits form a ≡ true → fits form b ≡ true → a ≤ℤ n → n ≤ℤ b → fits form n ≡ true
fits-between Unsigned16 a b n low high from to = within (pos 0) (pos 65535) a b n low high from to
fits-between Signed16 a b n low high from to = within (negsuc 32767) (pos 32767) a b n low high from to
fits-between (Unsigned32 first) a b n low high from to = within (pos 0) (pos 4294967295) a b n low high from to
fits-between (Signed32 first) a b n low high from to = within (negsuc 2147483647) (pos 2147483647) a b n low high from to
fits-between (Single first) a b n low high from to = refl

both : (a b : Bool) → (a && b) ≡ true → (a ≡ true) × (b ≡ true)
both true b e = (refl, e)
both false b e = cc

and-all : (a b c : Bool) → a ≡ true → b ≡ true → c ≡ true → (a && (b && c)) ≡ true
and-all true true true _ _ _ = refl
and-all true true false _ _ e = e
and-all true false c _ e _ = e
and-all false b c e _ _ = e

-- what a form's test says, by its three parts
record HasForm (form : Form) (scale : Scale) (n : ℤ) : Type 0 where
  some : int_le (pos 1) scale.per ≡ true
  held : is_held n ≡ true
  fit : fits form (whole scale.round n scale.per) ≡ true

parts-of : (form : Form) (scale : Scale) (value : ℤ) → has_form form scale value ≡ true → HasForm form scale (numerator scale value)
parts-of form scale value is =
    let first = both (int_le (pos 1) scale.per) (is_held (numerator scale value) && fits form (whole scale.round (numerator scale value) scale.per)) is in
    let second = both (is_held (numerator scale value)) (fits form (whole scale.round (numerator scale value) scale.per)) first.1 in
    record { some = first.0; held = second.0; fit = second.1 }

rises-at : (scale : Scale) (per : ℤ) (a b : ℤ) → int_le (pos 1) per ≡ true → a ≤ℤ b → whole scale.round a per ≤ℤ whole scale.round b per
rises-at scale (pos zero) a b some le = cc
rises-at scale (pos (suc per)) a b some le = whole-rises scale.round a b (suc per) (omega arith) le
rises-at scale (negsuc per) a b some le = cc

pub form-between : (form : Form) (scale : Scale) (least most value : ℤ) → has_form form scale least ≡ true → has_form form scale most ≡ true
    → least ≤ℤ value → value ≤ℤ most → has_form form scale value ≡ true
form-between form scale least most value low high from to =
    let a = parts-of form scale least low in
    let b = parts-of form scale most high in
    let after = numerator-rises scale least value from in
    let before = numerator-rises scale value most to in
    and-all (int_le (pos 1) scale.per) (is_held (numerator scale value)) (fits form (whole scale.round (numerator scale value) scale.per)) a.some
    (within (negsuc 9223372036854775807) (pos 9223372036854775807) (numerator scale least) (numerator scale most) (numerator scale value) a.held b.held after before)
    (fits-between form (whole scale.round (numerator scale least) scale.per) (whole scale.round (numerator scale most) scale.per)
    (whole scale.round (numerator scale value) scale.per) a.fit b.fit
    (rises-at scale scale.per (numerator scale least) (numerator scale value) a.some after)
    (rises-at scale scale.per (numerator scale value) (numerator scale most) a.some before))
