-- Worked rows, computed from the definitions: scales, forms and their bits.
use Rattle.std.proofs.Common.{◌≡◌, ℕ, ◌/◌, ◌*◌, ◌+◌, pos, negsuc, true, false, refl, ap, arith}
use Rattle.boss_model.specs.declared.places.Form.TheVariants.{Signed16, Unsigned32, Signed32}
use Rattle.boss_model.specs.declared.places.Half.TheVariants.{High, Low}
use Rattle.boss_model.specs.declared.places.Round.{Round}
use Rattle.boss_model.specs.declared.places.Round.TheVariants.{Down, Nearest}
use Rattle.boss_model.specs.declared.places.Scale.{Scale}
use Rattle.boss_numbers.specs.declared.registers.Words.TheVariants.{Two}
use Rattle.boss_numbers.specs.Scales.{numerator, whole, fits, has_form, complement, halves}

-- so many thousandths are one of the device
per_unit : ℕ → Round → Scale
per_unit per round = record { times = 1; per = pos per; offset = pos 0; round = round }

-- 45.9 units are 45, or the nearest, 46; half a unit below 0 is -1, or 0
down-above : whole Down (numerator (per_unit 1000 Down) (pos 45900)) (pos 1000) ≡ pos 45
unfolding per_unit
down-above = refl

nearest-above : whole Nearest (numerator (per_unit 1000 Nearest) (pos 45900)) (pos 1000) ≡ pos 46
unfolding per_unit
nearest-above = refl

down-below : whole Down (numerator (per_unit 1000 Down) (negsuc 499)) (pos 1000) ≡ negsuc 0
unfolding per_unit
down-below = refl

nearest-below : whole Nearest (numerator (per_unit 1000 Nearest) (negsuc 499)) (pos 1000) ≡ pos 0
unfolding per_unit
nearest-below = refl

-- 21.5 °C are 70.7 °F: 70, or the nearest, 71
fahrenheit : Round → Scale
fahrenheit round = record { times = 9; per = pos 5000; offset = pos 32; round = round }

fahrenheit-down : whole Down (numerator (fahrenheit Down) (pos 21500)) (pos 5000) ≡ pos 70
unfolding fahrenheit
fahrenheit-down = refl

fahrenheit-nearest : whole Nearest (numerator (fahrenheit Nearest) (pos 21500)) (pos 5000) ≡ pos 71
unfolding fahrenheit
fahrenheit-nearest = refl

-- ---- forms

signed-least : fits Signed16 (negsuc 32767) ≡ true
signed-least = refl

signed-past : fits Signed16 (negsuc 32768) ≡ false
signed-past = refl

long-past : fits (Unsigned32 High) (pos 4294967296) ≡ false
long-past = refl

-- -21.5 in tenths, and -100,000 in two registers
below-nothing : complement 65536 (negsuc 214) ≡ 65321
below-nothing = refl

high-first : halves (complement 4294967296 (negsuc 99999)) High ≡ Two 65534 31072
high-first = refl

low-first : halves (complement 4294967296 (negsuc 99999)) Low ≡ Two 31072 65534
low-first = refl

-- nothing is divided by 0, and 64 bits hold each number
by-nothing : has_form Signed16 (per_unit 0 Down) (pos 1) ≡ false
unfolding per_unit
by-nothing = refl

past-64-bits : has_form (Signed32 High) (record { times = 1000; per = pos 1; offset = pos 0; round = Down }) (pos 9223372036854775807) ≡ false
past-64-bits = refl

-- ---- a register with a `per` alone has the value divided by it, rounded towards 0

plain : (per value : ℕ) → whole Down (numerator (per_unit per Down) (pos value)) (pos per) ≡ pos (value / per)
unfolding per_unit
plain per value = let alone : value * 1 + 0 * per ≡ value = omega arith in ap (λ n. pos (n / per)) alone
