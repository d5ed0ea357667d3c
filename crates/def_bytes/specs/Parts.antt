-- Source: own.
-- The fields that events and states share.
use Rattle.std.specs.Prelude.{ℕ, ◌-◌, ◌*◌, ◌^◌, nat_lt, nat_le, ◌==◌, ℤ, pos, negsuc, true, if◌then◌else◌, List, [], Option, Some, None}
use Rattle.std.specs.Int.{Width, w32, w64, byte_len, cast_signed, cast_unsigned}
use Rattle.def_bytes.specs.Fields.{Field, number, byte, both, only, made_of, counted}
use Rattle.boss_model.specs.declared.command.Policy.{Policy}
use Rattle.boss_model.specs.declared.command.Policy.TheVariants.{Abort, Keep}
use Rattle.boss_model.specs.declared.command.Step.{Step}
use Rattle.boss_model.specs.Limits.{longest_name, most_steps, last_moment}
use Rattle.boss_model.specs.Names.{is_name}

-- no bytes at all
abbrev pub nothing : Field Unit
nothing = record { fits = λ x. true; text = λ x. []; most = 0; at = λ bytes. Some (tt, bytes) }

-- a byte of these values
abbrev pub within : ℕ → ℕ → Field ℕ
within least greatest = only (nat_le least) (only (λ n. nat_le n greatest) byte)

-- a whole number from -2^63 on and below 2^63: 64 bits in two's complement
abbrev pub bits_of : ℤ → Option ℕ
bits_of (pos n) = if nat_lt n (2 ^ 63) then Some n else None
bits_of (negsuc n) = if nat_lt n (2 ^ 63) then Some (cast_unsigned w64 (negsuc n)) else None

abbrev pub signed64 : Field ℤ
signed64 = made_of bits_of (cast_signed w64) (number w64)

-- a whole number of at least 0, as a number
abbrev pub unsigned : ℤ → Option ℕ
unsigned (pos n) = Some n
unsigned (negsuc n) = None

abbrev pub natural : Field ℕ → Field ℤ
natural f = made_of unsigned pos f

-- as many items as the number before them can tell
abbrev pub listed : {X : Type 0} → Width → Field X → Field (List X)
listed w f = counted (number w) (2 ^ (8 * byte_len w) - 1) f

-- ---- moments, names, policies

abbrev pub moment : Field ℕ
moment = only (λ n. nat_le n last_moment) (number w64)

abbrev pub name : Field (List ℕ)
name = only is_name (counted byte longest_name byte)

-- 0 for abort, 1 for keep
abbrev pub policy_number : Policy → Option ℕ
policy_number Abort = Some 0
policy_number Keep = Some 1

abbrev pub policy_of : ℕ → Policy
policy_of n = if n == 0 then Abort else Keep

abbrev pub policy : Field Policy
policy = made_of policy_number policy_of (within 0 1)

-- ---- reversions: the number of steps, and for each its value and how long it holds

abbrev pub step_parts : Step → Option (ℤ × ℤ)
step_parts step = Some (step.value, step.hold)

abbrev pub step_of : ℤ × ℤ → Step
step_of x = record { value = x.0; hold = x.1 }

abbrev pub step : Field Step
step = made_of step_parts step_of (both signed64 (natural (number w32)))

abbrev pub steps : Field (List Step)
steps = counted byte most_steps step
