-- Source: own; MODBUS has no types but the word: those of two words, and their order, are what makers do.
-- The scale of a point's values, and the forms in which they stand in registers.
use Rattle.std.specs.Prelude.{◌≡◌, ℕ, ◌-◌, ◌/◌, ◌%◌, ℤ, pos, negsuc, ◌+ℤ◌, ◌*ℤ◌, int_le, unsigned_abs, Bool, true, false, ◌&&◌, if◌then◌else◌, Option, Some, None}
use Rattle.std.specs.Int.{int_div_euclid}
use Rattle.boss_model.specs.declared.places.Form.{Form}
use Rattle.boss_model.specs.declared.places.Form.TheVariants.{Unsigned16, Signed16, Unsigned32, Signed32, Single}
use Rattle.boss_model.specs.declared.places.Half.{Half}
use Rattle.boss_model.specs.declared.places.Half.TheVariants.{High, Low}
use Rattle.boss_model.specs.declared.places.Round.{Round}
use Rattle.boss_model.specs.declared.places.Round.TheVariants.{Down, Nearest}
use Rattle.boss_model.specs.declared.places.Scale.{Scale}
use Rattle.boss_numbers.specs.declared.registers.Words.{Words}
use Rattle.boss_numbers.specs.declared.registers.Words.TheVariants.{One, Two}
use Rattle.boss_numbers.specs.Nearest.{IsSingle}

-- ---- the scale

-- a value is told as this, divided by `per`
abbrev pub numerator : Scale → ℤ → ℤ
numerator scale value = value *ℤ pos scale.times +ℤ scale.offset *ℤ scale.per

-- the greatest whole number that is not above it, or the nearest one, of two that are as near the greater
abbrev pub whole : Round → ℤ → ℤ → ℤ
whole Down n per = int_div_euclid n per
whole Nearest n per = int_div_euclid (n *ℤ pos 2 +ℤ per) (per *ℤ pos 2)

abbrev pub is_between : ℤ → ℤ → ℤ → Bool
is_between least most n = int_le least n && int_le n most

-- 64 bits hold it, one of them for the sign
abbrev pub is_held : ℤ → Bool
is_held n = is_between (negsuc 9223372036854775807) (pos 9223372036854775807) n

abbrev pub if_held : ℤ → Option ℤ
if_held n = if is_held n then Some n else None

-- ---- forms

abbrev pub fits : Form → ℤ → Bool
fits Unsigned16 raw = is_between (pos 0) (pos 65535) raw
fits Signed16 raw = is_between (negsuc 32767) (pos 32767) raw
fits (Unsigned32 first) raw = is_between (pos 0) (pos 4294967295) raw
fits (Signed32 first) raw = is_between (negsuc 2147483647) (pos 2147483647) raw
fits (Single first) raw = true

-- a value has a form at a scale
abbrev pub has_form : Form → Scale → ℤ → Bool
has_form form scale value =
    int_le (pos 1) scale.per && (is_held (numerator scale value) && fits form (whole scale.round (numerator scale value) scale.per))

-- the least and the greatest of some values have one
abbrev pub have_forms : Form → Scale → ℤ → ℤ → Bool
have_forms form scale least most = has_form form scale least && has_form form scale most

-- a whole number in so many patterns of bits: below 0 its two's complement
abbrev pub complement : ℕ → ℤ → ℕ
complement all (pos k) = k
complement all (negsuc k) = all - 1 - k

abbrev pub halves : ℕ → Half → Words
halves bits High = Two (bits / 65536) (bits % 65536)
halves bits Low = Two (bits % 65536) (bits / 65536)

-- these are the registers of n / per in the form
abbrev pub AreWords : Form → Round → ℤ → ℤ → Words → Type 0
AreWords Unsigned16 round n per words = words ≡ One (complement 65536 (whole round n per))
AreWords Signed16 round n per words = words ≡ One (complement 65536 (whole round n per))
AreWords (Unsigned32 first) round n per words = words ≡ halves (complement 4294967296 (whole round n per)) first
AreWords (Signed32 first) round n per words = words ≡ halves (complement 4294967296 (whole round n per)) first
AreWords (Single first) round n per words = (bits : ℕ) × IsSingle n (unsigned_abs per) bits × (words ≡ halves bits first)

-- the registers of a value are given exactly where it has a form
abbrev pub Stands : Form → Scale → ℤ → Option Words → Type 0
Stands form scale value (Some words) = (has_form form scale value ≡ true) × AreWords form scale.round (numerator scale value) scale.per words
Stands form scale value None = has_form form scale value ≡ false
