use Rattle.std.proofs.Common.{◌≡◌, vec_len}
use Rattle.boss_field.proofs.devices.field_devices.Given as goal

-- so many devices so far
abbrev pub invariant-loop : goal.invariant-loop
invariant-loop g l = vec_len l.devices ≡ l.counter
