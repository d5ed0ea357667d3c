-- Source: own.
-- What is read is spelled so, and what is spelled so is read.
use Rattle.std.specs.Prelude.{◌≡◌, ℕ, ◌<◌, ◌≤◌, true, List, ◌++◌, length, get_or, Option, Some}
use Rattle.def_bytes.specs.Fields.{Field, Variants}

abbrev pub IsBytes : List ℕ → Type 0
IsBytes bytes = (i : ℕ) → get_or bytes i 0 < 256

-- what a field took from the front of bytes
pub record Took {X : Type 0} (f : Field X) (bytes : List ℕ) (x : X) (rest : List ℕ) : Type 0 where
  pub fits : f.fits x ≡ true
  pub spelled : bytes ≡ f.text x ++ rest
  pub rest_bytes : IsBytes rest

-- what is read is spelled so; what is spelled so is read, whatever follows it
pub record IsExact {X : Type 0} (f : Field X) : Type 0 where
  pub takes : (bytes : List ℕ) (x : X) (rest : List ℕ) → IsBytes bytes → f.at bytes ≡ Some (x, rest) → Took f bytes x rest
  pub again : (x : X) (rest : List ℕ) → f.fits x ≡ true → f.at (f.text x ++ rest) ≡ Some (x, rest)

-- no spelling is longer than is said
pub record IsShort {X : Type 0} (f : Field X) : Type 0 where
  pub short : (x : X) → f.fits x ≡ true → length (f.text x) ≤ f.most

-- taking apart and putting together undo each other
pub record Undoes {X Y : Type 0} (parts : X → Option Y) (made : Y → X) (f : Field Y) : Type 0 where
  pub back : (y : Y) → f.fits y ≡ true → parts (made y) ≡ Some y
  pub whole : (x : X) (y : Y) → parts x ≡ Some y → made y ≡ x

-- what stood behind the tag of a kind
pub record TookKind {X : Type 0} (v : Variants X) (tag : ℕ) (bytes : List ℕ) (x : X) (rest : List ℕ) : Type 0 where
  pub kind : v.tag x ≡ tag
  pub fits : v.fits x ≡ true
  pub spelled : bytes ≡ v.text x ++ rest
  pub rest_bytes : IsBytes rest

pub record IsExactKinds {X : Type 0} (v : Variants X) : Type 0 where
  pub takes : (tag : ℕ) (bytes : List ℕ) (x : X) (rest : List ℕ) → IsBytes bytes → v.at tag bytes ≡ Some (x, rest) → TookKind v tag bytes x rest
  pub again : (x : X) (rest : List ℕ) → v.fits x ≡ true → v.at (v.tag x) (v.text x ++ rest) ≡ Some (x, rest)
