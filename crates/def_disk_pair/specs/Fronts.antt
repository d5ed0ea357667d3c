-- Source: own.
-- What stands on a disk before its first gate.
use Rattle.std.specs.Prelude.{◌≡◌, ◌≢◌, ◌⊎◌, ℕ, ◌+◌, if◌then◌else◌, ◌^◌, ◌<◌, ◌≤◌, true, List, ◌∷◌, ◌++◌, length}
use Rattle.def_log.specs.Versions.{IsKnown}
use Rattle.std.specs.Int.{w64}
use Rattle.def_bytes.specs.Fields.{number_text}
use Rattle.boss_model.specs.declared.state.Actuator.{Actuator}
use Rattle.boss_model.specs.Limits.{last_number}
use Rattle.boss_model.specs.Sound.{IsSoundPersistent}
use Rattle.boss_model.specs.State.{Persistent, first_persistent}
use Rattle.def_bytes.specs.States.{state}
use Rattle.def_seal.specs.Seals.{has_sums, seed_of, sum_of}
use Rattle.def_log.specs.Kinds.{plain_mark, state_mark}

-- byte 0, which is any but 0; the mark; the version; the digest of the catalogue
abbrev pub heading : ℕ → List ℕ → ℕ → List ℕ → List ℕ
heading first mark version digest = first ∷ (mark ++ version ∷ digest)

-- a journal from the first state on: its first gate is byte 41
pub record IsPlainFront (digest : List ℕ) (version : ℕ) (from : Persistent) (before : ℕ) (front : List ℕ) : Type 0 where
  pub first : ℕ
  pub written : first ≢ 0
  pub known : IsKnown version
  pub is : front ≡ heading first plain_mark version digest
  pub first_state : from ≡ first_persistent
  pub none_before : before ≡ 0

-- how many bytes a state has with its sum
abbrev pub kept_size : ℕ → List ℕ → ℕ
kept_size version text = if has_sums version then length text + 8 else length text

-- the state; from version 3 on behind the seed of the sums, and with its sum, as of a record whose gate is at 65
abbrev pub kept_bytes : ℕ → List ℕ → List ℕ → List ℕ
kept_bytes version seed text = if has_sums version then seed ++ (text ++ sum_of seed 65 text) else text

-- generation, number of events before, length of the state, the state
abbrev pub kept_state : ℕ → List ℕ → ℕ → ℕ → List ℕ → List ℕ
kept_state version seed generation before text =
    number_text w64 generation ++ (number_text w64 before ++ (number_text w64 (kept_size version text) ++ kept_bytes version seed text))

-- bytes 1 to 64: all between byte 0 and the seed
abbrev pub kept_head : ℕ → List ℕ → ℕ → ℕ → ℕ → List ℕ
kept_head version digest generation before size =
    state_mark ++ version ∷ (digest ++ (number_text w64 generation ++ (number_text w64 before ++ number_text w64 size)))

-- the seed that they give
abbrev pub kept_seed : ℕ → List ℕ → ℕ → ℕ → List ℕ → List ℕ
kept_seed version digest generation before text = seed_of (0 ∷ kept_head version digest generation before (kept_size version text))

-- all of a kept state, by its byte 0
abbrev pub kept_front : ℕ → ℕ → List ℕ → ℕ → ℕ → List ℕ → List ℕ
kept_front first version digest generation before text =
    heading first state_mark version digest ++ kept_state version (kept_seed version digest generation before text) generation before text

-- a kept state, which is sound: its first gate is behind it
pub record IsStateFront (plant : List Actuator) (digest : List ℕ) (version generation : ℕ) (from : Persistent) (before : ℕ) (front : List ℕ) : Type 0 where
  pub first : ℕ
  pub written : first ≢ 0
  pub known : IsKnown version
  pub is : front ≡ kept_front first version digest generation before ((state version).text from)
  pub counted : generation < 2 ^ 64
  pub few : before ≤ last_number
  pub fits : (state version).fits from ≡ true
  pub sound : IsSoundPersistent plant from

-- the front of a disk in force: what its events start from, and how many were before them
abbrev pub IsFront : List Actuator → List ℕ → ℕ → Persistent → ℕ → List ℕ → Type 0
IsFront plant digest version from before front =
    IsPlainFront digest version from before front ⊎ ((generation : ℕ) × IsStateFront plant digest version generation from before front)
