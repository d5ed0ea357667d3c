-- Source: own.
-- What a pair of disks holds, by its bytes.
use Rattle.std.specs.Prelude.{◌≡◌, ◌⊎◌, ℕ, List}
use Rattle.def_log.specs.InForce.{Foreign, Neither}
use Rattle.def_log.specs.declared.kind.DiskKind.TheVariants.{Plain}
use Rattle.def_log.specs.Kinds.{kind_of, in_force}
use Rattle.boss_model.specs.State.{Persistent}
use Rattle.def_disk_pair.specs.Pairs.{IsNew, OfPair}
use Rattle.boss_snapshot.specs.Fronts.{version_of, digest_of}
use Rattle.def_log.specs.Versions.{IsKnown}
use Rattle.boss_snapshot.specs.Refusals.{IsKeptState, IsState}

-- something said of the disk in force
abbrev pub OfOneInForce : (List ℕ → Type 0) → List ℕ → List ℕ → Type 0
OfOneInForce P first second = OfPair P (λ bytes. ⊥) first second

-- no disk is in force, and the first is new
abbrev pub IsNewPair : List ℕ → List ℕ → Type 0
IsNewPair first second = (in_force (kind_of first) (kind_of second) ≡ Neither) × IsNew first

-- one of them is not this program's, or no disk is in force and the first is not new
abbrev pub IsNoPair : List ℕ → List ℕ → Type 0
IsNoPair first second = (in_force (kind_of first) (kind_of second) ≡ Foreign)
    ⊎ ((in_force (kind_of first) (kind_of second) ≡ Neither) × (IsNew first → ⊥))

-- a journal from the first state on, of a known version and of the catalogue with this digest
abbrev pub IsPlain : List ℕ → List ℕ → Type 0
IsPlain digest bytes = (kind_of bytes ≡ Plain) × IsKnown (version_of bytes) × (digest_of bytes ≡ digest)

abbrev pub IsPlainPair : List ℕ → List ℕ → List ℕ → Type 0
IsPlainPair digest first second = OfOneInForce (IsPlain digest) first second

-- a kept state, with so many events before it and its first gate at this place; it may be one that is not sound
abbrev pub IsStatePair : List ℕ → Persistent → ℕ → ℕ → List ℕ → List ℕ → Type 0
IsStatePair digest d events place first second = OfOneInForce (λ bytes. IsState (kind_of bytes) × IsKeptState digest bytes d events place) first second
