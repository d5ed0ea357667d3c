use Rattle.std.proofs.Common.{List, subst, sym}
use Rattle.boss_model.specs.declared.state.Actuator.{Actuator}
use Rattle.boss_model.specs.Seen.{seen}
use Rattle.boss_model.specs.Settle.{opened}
use Rattle.boss_model.specs.Sound.{IsSound, IsSoundPersistent}
use Rattle.law_soundness.proofs.Opened.{opened-sound}
use Rattle.boss_engine.specs.Inside.{HasPlaces}
use Rattle.boss_engine.proofs.engine.Engine.for_kept.Goals as goal

pub put_back-requires-clause-sound : goal.put_back-requires-clause-sound
put_back-requires-clause-sound c = subst (λ (plant : List Actuator). IsSoundPersistent plant (seen c.args.kept.now)) (sym c.deref.ensures.value) c.requires.sound

pub invariant_of-result : goal.invariant_of-result
invariant_of-result c =
    let plant = c.args.plant.items in
    let machine = c.in_ok-machine.machine in
    record {
      sound = subst (λ d. IsSound plant (opened plant d)) (sym c.in_ok-machine.ensures.persistent) (opened-sound plant (seen c.args.kept.now) c.requires.sound);
      places = subst (λ (p : List Actuator). HasPlaces p machine) c.deref.ensures.value c.in_ok-machine.ensures.ready;
    }

pub returns : goal.returns
returns c = λ i. record { plant = c.args.plant.items; state = opened c.args.plant.items (c.in_ok-machine.ensures.persistent i) }
