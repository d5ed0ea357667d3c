use Rattle.std.proofs.Common.{◌≡◌, ◌<◌, drop}
use Rattle.boss_outside.specs.Bells.{mixed, name_bells}
use Rattle.boss_outside.proofs.bells.mixed.Given as goal

-- what is mixed by now, with the bytes to come, makes what all of them make
abbrev pub invariant-loop-byte : goal.invariant-loop-byte
invariant-loop-byte l = record {
  mixed : mixed l.mixed (drop l.byte-index l.bytes) ≡ mixed 0 l.bytes;
  few : l.mixed < name_bells;
}
