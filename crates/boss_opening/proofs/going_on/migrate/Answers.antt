use Rattle.std.proofs.Common.{◌≡◌, List, true, ap, ◌∙◌}
use Rattle.def_bytes.specs.States.{reply, state}
use Rattle.law_spelling.proofs.OfStates.{reply-fits, state-fits}
use Rattle.boss_model.specs.declared.state.Actuator.{Actuator}
use Rattle.boss_model.specs.Plants.{IsPlant}
use Rattle.boss_model.specs.Sound.{IsSoundPersistent}
use Rattle.boss_model.specs.State.{Persistent}
use Rattle.law_spelling.proofs.Stored.{storable}
use Rattle.law_spelling.specs.Ranges.{IsStoredProcess}
use Rattle.law_time.proofs.Orders.{each-map}
use Rattle.boss_disk_pair.proofs.Words.{rests_passes}
use Rattle.boss_opening.proofs.going_on.migrate.Goals as goal

has_spelling : (plant : List Actuator) (d : Persistent) → IsPlant plant → IsSoundPersistent plant d → (state 2).fits d ≡ true
has_spelling plant d whole sound =
    let stored = storable plant whole d sound in
    state-fits 2 d stored (each-map IsStoredProcess (λ p. (reply 2).fits p.reply ≡ true) (λ p is. reply-fits p.reply is.reply) d.processes stored.processes)

pub returns-then-version-eq-NEWEST_VERSION-clause-passes : goal.returns-then-version-eq-NEWEST_VERSION-clause-passes
returns-then-version-eq-NEWEST_VERSION-clause-passes g c = rests_passes c.args.pair.now c.args.engine.now.plant c.args.engine.now.state.persistent c.args.pair.now.events c.requires.rest

pub go_on_behind-requires-clause-fits : goal.go_on_behind-requires-clause-fits
go_on_behind-requires-clause-fits g c =
    let engine = c.args.engine.now in
    ap (λ d. (state 2).fits d) c.in-Ok.ensures ∙ has_spelling engine.plant engine.state.persistent c.requires.whole c.requires.sound

pub returns-in-Err-clause-passes : goal.returns-in-Err-clause-passes
returns-in-Err-clause-passes g c = rests_passes c.args.pair.now c.args.engine.now.plant c.args.engine.now.state.persistent c.args.pair.now.events c.requires.rest
