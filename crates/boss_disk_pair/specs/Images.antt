-- Source: own.
-- What a crash may leave of a pair.
use Rattle.std.specs.Prelude.{◌⊎◌, ℕ, List}
use Rattle.boss_model.specs.declared.state.Actuator.{Actuator}
use Rattle.boss_model.specs.State.{Persistent}
use Rattle.def_disk_pair.specs.Pairs.{OpensCleanly}

-- the pair is clean, and opens to this state
abbrev pub OpensTo : List Actuator → List ℕ → Persistent → List ℕ → List ℕ → Type 0
OpensTo plant digest d first second = (count : ℕ) × OpensCleanly plant digest d count first second

-- to one of two
abbrev pub OpensToOne : List Actuator → List ℕ → Persistent → Persistent → List ℕ → List ℕ → Type 0
OpensToOne plant digest a b first second = OpensTo plant digest a first second ⊎ OpensTo plant digest b first second

-- to one state under one plant and digest, or to another under another
abbrev pub OpensEither : List Actuator → List ℕ → Persistent → List Actuator → List ℕ → Persistent → List ℕ → List ℕ → Type 0
OpensEither plant digest a other_plant other_digest b first second = OpensTo plant digest a first second ⊎ OpensTo other_plant other_digest b first second
