-- Source: own.
-- A record that was under way as a stop came.
use Rattle.std.specs.Prelude.{◌≡◌, ◌≢◌, ◌⊎◌, ℕ, List, ◌∷◌, ◌++◌}
use Rattle.def_log.specs.Log.{framed}
use Rattle.boss_model.specs.declared.event.Event.{Event}
use Rattle.boss_model.specs.declared.state.Actuator.{Actuator}
use Rattle.boss_model.specs.State.{Persistent}
use Rattle.def_disk_pair.specs.Contents.{record_of, last_gate, HoldsCleanly, IsNext}
use Rattle.def_disk_pair.specs.Pairs.{OfPair}

-- The bytes are clean and come to a state, and behind their last gate, which is not 0, stands a whole record that leads on from there.
pub record IsUnderWayTo (plant : List Actuator) (digest : List ℕ) (d : Persistent) (count : ℕ) (after : Persistent) (bytes : List ℕ) : Type 0 where
  pub clean : HoldsCleanly plant digest d count bytes
  pub not_shut : clean.held.log.gate ≢ 0
  pub batch : List Event
  pub more : List ℕ
  pub next : IsNext plant clean.held.version d batch after
  pub behind : clean.held.log.tail
      ≡ framed (record_of clean.held.version clean.held.front (last_gate clean.held.version clean.held.front clean.batches) batch) ++ 0 ∷ more

-- meanwhile the state may be another only where a record was under way
abbrev pub MayComeTo : List Actuator → List ℕ → Persistent → ℕ → Persistent → List ℕ → List ℕ → Type 0
MayComeTo plant digest d count after first second = (after ≡ d) ⊎ OfPair (IsUnderWayTo plant digest d count after) (λ bytes. ⊥) first second
