-- Source: FIPS 180-4 (SHA-256), as the library sha2 says it.
use Rattle.std.specs.Prelude.{ℕ, List, ◌++◌}
use Rattle.sha2.specs.Hashers.{Holds256}
use Rattle.sha2.specs.declared.Sha256.{Sha256}

-- the hasher took the text, behind what it had taken
abbrev pub Takes : Sha256 → Sha256 → List ℕ → Type 0
Takes old new text = (taken : List ℕ) → Holds256 old taken → Holds256 new (taken ++ text)
