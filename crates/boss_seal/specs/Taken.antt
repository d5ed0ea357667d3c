-- Source: own.
-- A sum that is taken piece by piece.
use Rattle.std.specs.Prelude.{ℕ, List, ◌++◌}
use Rattle.std.specs.Int.{w64, to_be_bytes}
use Rattle.sha2.specs.Hashers.{Holds256}
use Rattle.boss_seal.specs.declared.summing.Summing.{Summing}

-- these bytes were taken, for the sum behind the gate at this place
abbrev pub Took : Summing → List ℕ → ℕ → List ℕ → Type 0
Took sum seed place bytes = Holds256 sum.hasher (seed ++ (to_be_bytes w64 place ++ bytes))
