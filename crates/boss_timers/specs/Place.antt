-- Source: own.
use Rattle.std.specs.Prelude.{◌≡◌, ℕ, ◌==◌, if◌then◌else◌, Option, Some, None}
use Rattle.std.proofs.Common.{arith}

-- the place that a number of four bytes stands for: the greatest stands for none
abbrev pub place_numbered : ℕ → Option ℕ
place_numbered number = if number == 4294967295 then None else Some number

abbrev pub number_of : Option ℕ → ℕ
number_of None = 4294967295
number_of (Some place) = place

-- a place has one number
pub number_of-place : (number : ℕ) → number_of (place_numbered number) ≡ number
number_of-place number = grind (arith)
