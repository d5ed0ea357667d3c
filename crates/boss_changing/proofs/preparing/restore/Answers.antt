use Rattle.std.proofs.Common.{◌≡◌, true, List, refl, sym, subst}
use Rattle.def_bytes.specs.States.{reply, state}
use Rattle.law_spelling.proofs.OfStates.{reply-fits, state-fits}
use Rattle.law_spelling.proofs.Stored.{storable}
use Rattle.law_spelling.specs.Ranges.{IsStoredProcess}
use Rattle.law_time.proofs.Orders.{each-map}
use Rattle.boss_model.specs.Catalogue.{actuators}
use Rattle.boss_model.specs.declared.state.Actuator.{Actuator}
use Rattle.boss_model.specs.Plants.{IsPlant}
use Rattle.boss_model.specs.Seen.{seen}
use Rattle.boss_model.specs.Sound.{IsSoundPersistent}
use Rattle.boss_model.specs.State.{Persistent}
use Rattle.boss_changing.proofs.preparing.restore.Goals as goal

has_spelling : (plant : List Actuator) (d : Persistent) → IsPlant plant → IsSoundPersistent plant d → (state 2).fits d ≡ true
has_spelling plant d whole sound =
    let stored = storable plant whole d sound in
    state-fits 2 d stored (each-map IsStoredProcess (λ p. (reply 2).fits p.reply ≡ true) (λ p is. reply-fits p.reply is.reply) d.processes stored.processes)

pub returns-in-Ok-clause-restored : goal.returns-in-Ok-clause-restored
returns-in-Ok-clause-restored c = record {
  plant_is = c.in-Ok.ensures.plant;
  state_is = c.in-Ok.ensures.state;
  whole = subst IsPlant (sym c.in-Ok.ensures.plant) c.count.ensures.plant;
  sound = c.in-Ok.ensures.sound;
  kept_is = refl;
  fits = has_spelling (actuators c.args.new.now) (seen c.args.kept) c.count.ensures.plant c.requires;
}

pub unreachable-requires : goal.unreachable-requires
unreachable-requires c = c.in-Err-NotSound.ensures.wrong c.in-Err-NotSound.field-0-is c.requires
