-- Source: own.
-- Connections shared out to workers.
use Rattle.std.specs.Prelude.{ℕ, ◌+◌, ◌/◌, ◌%◌, nat_lt, if◌then◌else◌}

abbrev pub share_of : ℕ → ℕ → ℕ → ℕ
share_of connections workers number = connections / workers + (if nat_lt number (connections % workers) then 1 else 0)
