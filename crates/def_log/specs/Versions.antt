-- Source: own.
use Rattle.std.specs.Prelude.{ℕ, ◌≤◌}

-- the version of a new journal; 1 has no request numbers, and 2 no sums
abbrev pub newest_version : ℕ
newest_version = 3

-- the versions that are known
abbrev pub IsKnown : ℕ → Type 0
IsKnown version = (1 ≤ version) × (version ≤ newest_version)
