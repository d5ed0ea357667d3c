use Rattle.std.proofs.Common.{◌≡◌, true, List}
use Rattle.boss_model.specs.declared.state.Actuator.{Actuator}
use Rattle.boss_model.specs.Plants.{IsPlant}
use Rattle.boss_model.specs.Sound.{IsSoundPersistent}
use Rattle.boss_model.specs.State.{Persistent}
use Rattle.def_bytes.specs.States.{reply, state}
use Rattle.law_spelling.proofs.OfStates.{reply-fits, state-fits}
use Rattle.law_spelling.proofs.Stored.{storable}
use Rattle.law_spelling.specs.Ranges.{IsStoredProcess}
use Rattle.law_time.proofs.Orders.{each-map}
use Rattle.boss_feeding.proofs.kept.try_kept.Goals as goal

-- what is sound has a spelling
sound_fits : (plant : List Actuator) (d : Persistent) → IsPlant plant → IsSoundPersistent plant d → (state 2).fits d ≡ true
sound_fits plant d whole sound =
    let stored = storable plant whole d sound in
    state-fits 2 d stored (each-map IsStoredProcess (λ p. (reply 2).fits p.reply ≡ true) (λ p is. reply-fits p.reply is.reply) d.processes stored.processes)

pub returns-clause-spelled : goal.returns-clause-spelled
returns-clause-spelled c = sound_fits _ _ c.count.ensures.plant c.in_ok-restore.ensures.right
