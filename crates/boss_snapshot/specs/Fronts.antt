-- Source: own.
-- What stands before a kept state, by the bytes of its disk.
use Rattle.std.specs.Prelude.{◌≡◌, ℕ, ◌+◌, ◌^◌, ◌<◌, ◌≤◌, if◌then◌else◌, List, ◌++◌, length, take, drop, slice_index_or}
use Rattle.def_log.specs.Versions.{IsKnown}
use Rattle.std.specs.Int.{w64, from_be_bytes}
use Rattle.def_bytes.specs.Fields.{number_text}
use Rattle.def_log.specs.Kinds.{generation_of}
use Rattle.def_seal.specs.Seals.{has_sums, seed_of}
use Rattle.boss_model.specs.Limits.{last_number}

-- byte 8
abbrev pub version_of : List ℕ → ℕ
version_of bytes = slice_index_or bytes 8 0

-- bytes 9 to 40
abbrev pub digest_of : List ℕ → List ℕ
digest_of bytes = take 32 (drop 9 bytes)

-- the number of events before the state: eight bytes at 49
abbrev pub events_of : List ℕ → ℕ
events_of bytes = from_be_bytes w64 (take 8 (drop 49 bytes))

-- how many bytes the state has, with its sum where it has one: eight bytes at 57
abbrev pub size_of : List ℕ → ℕ
size_of bytes = from_be_bytes w64 (take 8 (drop 57 bytes))

-- where they begin: behind the seed of the sums, where there are sums
abbrev pub text_place : ℕ → ℕ
text_place version = if has_sums version then 73 else 65

-- these bytes
abbrev pub text_of : List ℕ → List ℕ
text_of bytes = take (size_of bytes) (drop (text_place (version_of bytes)) bytes)

-- the generation, the number of events and the length are spelled from 41 on
pub record HasCounts (bytes : List ℕ) : Type 0 where
  pub spelled : take 24 (drop 41 bytes) ≡ number_text w64 (generation_of bytes) ++ (number_text w64 (events_of bytes) ++ number_text w64 (size_of bytes))
  pub counted : generation_of bytes < 2 ^ 64

-- a known version, the catalogue with this digest, few events enough, the seed of the sums, and a place for a gate behind the state
pub record IsStateHead (digest bytes : List ℕ) (version events size : ℕ) (seed : List ℕ) : Type 0 where
  pub known : IsKnown version
  pub version_is : version ≡ version_of bytes
  pub same : digest_of bytes ≡ digest
  pub events_are : events ≡ events_of bytes
  pub few : events ≤ last_number
  pub size_is : size ≡ size_of bytes
  pub counts : HasCounts bytes
  pub seeded : seed ≡ seed_of bytes
  pub inside : text_place version + size < length bytes
