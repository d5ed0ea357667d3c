use Rattle.std.proofs.Common.{◌∙◌, rules, Ok}
use Rattle.std.proofs.lemmas.Iterator.{YieldsList-from_slice, YieldsList-from_map, items_from_collect}
use Rattle.std.proofs.lemmas.Iterator.Consumers.{YieldsList-at}
use Rattle.boss_model.specs.declared.state.Actuator.{Actuator}
use Rattle.boss_engine.proofs.machine.devices_of.Goals as goal

pub returns : goal.returns
returns c = c.from_vec.ensures ∙ items_from_collect {E = Unit {0}} (Ok c.in_ok-devices.devices) (c.in_ok-devices.ensures.ran)
    (YieldsList-from_map _ (λ (actuator : Actuator). (actuator.driver, actuator.default))
    (YieldsList-at c.map.ensures.source (YieldsList-from_slice c.args.plant.now c.iter.ensures.rest)) c.map.ensures.closure (λ x r q k. search rules))
