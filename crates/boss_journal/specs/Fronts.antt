-- Source: own.
-- The front of a journal, and which bytes are a new one.
use Rattle.std.specs.Prelude.{◌≡◌, ℕ, ◌≤◌, ◌⊎◌, List, [], ◌∷◌, ◌++◌, length, codes}
use Rattle.def_log.specs.Versions.{IsKnown}

-- bytes 0 to 40: the mark, the version, and the digest of the catalogue
abbrev pub journal_front : ℕ → List ℕ → List ℕ
journal_front version digest = codes "BOSSJRNL" ++ version ∷ digest

-- bytes 1 to 41 of a journal without records; byte 0 is written last
abbrev pub fresh_rest : ℕ → List ℕ → List ℕ
fresh_rest version digest = codes "OSSJRNL" ++ version ∷ (digest ++ 0 ∷ [])

-- all of a journal without records but for byte 0, which may be any
pub record IsFresh (version : ℕ) (digest bytes : List ℕ) : Type 0 where
  pub known : IsKnown version
  pub first : ℕ
  pub is : bytes ≡ first ∷ fresh_rest version digest

-- byte 0 is 0, and no byte is past the first gate
pub record IsBegun (bytes : List ℕ) : Type 0 where
  pub rest : List ℕ
  pub is : bytes ≡ 0 ∷ rest
  pub short : length bytes ≤ 42

-- a journal that is not made yet, or has no records
abbrev pub IsNew : List ℕ → List ℕ → Type 0
IsNew digest bytes = (length bytes ≤ 1) ⊎ (IsBegun bytes ⊎ ((version : ℕ) × IsFresh version digest bytes))
