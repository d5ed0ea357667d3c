-- Source: own.
-- The bytes of a state.
use Rattle.std.specs.Prelude.{◌≡◌, ℕ, true, List}
use Rattle.boss_model.specs.State.{Persistent}
use Rattle.def_bytes.specs.States.{state}
use Rattle.def_seal.specs.Seals.{sealed}

-- these bytes are the spelling of the state in this version
pub record SpellsState (version : ℕ) (d : Persistent) (bytes : List ℕ) : Type 0 where
  pub fits : (state version).fits d ≡ true
  pub is : bytes ≡ (state version).text d

-- the same on a disk: with its sum, where there are sums, as of a record whose gate is at 65
pub record SpellsSealed (version : ℕ) (seed : List ℕ) (d : Persistent) (bytes : List ℕ) : Type 0 where
  pub fits : (state version).fits d ≡ true
  pub is : bytes ≡ sealed version seed 65 ((state version).text d)
