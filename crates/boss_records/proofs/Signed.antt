-- Whole numbers as bytes.
use Rattle.std.proofs.Common.{◌≡◌, ◌^◌, ◌-◌, suc, ℤ, pos, negsuc, cond, [], Some, None, ap}
use Rattle.std.specs.Prelude.{FitsSigned}
use Rattle.std.specs.Option.{option_map_or}
use Rattle.std.specs.Int.{w64, cast_unsigned}
use Rattle.std.proofs.lemmas.Bool.{lt-ltb}
use Rattle.def_bytes.specs.Fields.{number_text}
use Rattle.def_bytes.specs.Parts.{bits_of, signed64}

pub signed_bits : (z : ℤ) → FitsSigned w64 z → bits_of z ≡ Some (cast_unsigned w64 z)
signed_bits (pos n) fits = ap (λ b. cond b (Some n) None) (lt-ltb n (2 ^ 63) fits.sfits)
signed_bits (negsuc n) fits = ap (λ b. cond b (Some (2 ^ 64 - suc n)) None) (lt-ltb n (2 ^ 63) fits.sfits)

pub signed_text : (z : ℤ) → FitsSigned w64 z → signed64.text z ≡ number_text w64 (cast_unsigned w64 z)
signed_text z fits = ap (λ o. option_map_or (number_text w64) o []) (signed_bits z fits)
