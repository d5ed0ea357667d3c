use Rattle.std.proofs.Common.{◌≡◌, ◌<◌, ◌++◌, [], ◌∷◌, length, map, set, ap, subst, sym, ◌∙◌, arith, rules}
use Rattle.std.proofs.lemmas.Int.{to_z-of_z}
use mir.Val.{SFits}
use mir.Syntax.{w64}
use Rattle.boss_model.specs.DeviceCall.{DeviceCall}
use Rattle.boss_scripts.specs.Outside.{Answered}
use Rattle.boss_scripts.specs.Runs.{gained}
use Rattle.boss_scripts.proofs.Answering.{answered-one, caused}
use Rattle.boss_scripts.proofs.RunLemmas.{gains}
use Rattle.boss_scripts.proofs.devices.command_device.Goals as goal

pub returns-clause-calls : goal.returns-clause-calls
returns-clause-calls g c = λ tells all.
    let fits : SFits w64 c.args.value = search rules in
    let call : DeviceCall = record { point = c.args.point; value = c.args.value; ok = c.is_ok.result } in
    let one : g.A.Actuators.whole c.write.new.self → g.A.Actuators.whole c.index_mut.result.now
    × (g.A.Actuators.calls c.write.new.self ≡ g.A.Actuators.calls c.index_mut.result.now ++ call ∷ []) =
    rw c.is_ok.ensures.value (simp to_z-of_z at (c.write.ensures.recorded tells)) in
    let which : c.driver.inside.0 ≡ c.args.driver = c.driver.view_is in
    let within : c.driver.inside.0 < length c.args.devices.now.items = omega arith in
    let gain = gains g.A.Actuators.calls g.A.Actuators.whole call c.args.devices.now.items c.driver.inside.0 c.index_mut.result.now c.write.new.self
    within c.index_mut.ensures.value one all in
    (gain.0, gain.1 ∙ ap (λ k. gained k call (map g.A.Actuators.calls c.args.devices.now.items)) which)

pub returns-clause-answered : goal.returns-clause-answered
returns-clause-answered g c =
    let within : c.driver.inside.0 < length c.args.devices.now.items = omega arith in
    let cause = caused c.write.result c.write.ensures.cause in
    subst (λ ok. Answered (ok ∷ []) (map g.A.Actuators.faults c.args.devices.now.items)
    (map g.A.Actuators.faults (set c.args.devices.now.items c.driver.inside.0 c.write.new.self))) (sym c.is_ok.ensures.value)
    (answered-one g.A.Actuators.faults _ c.args.devices.now.items c.driver.inside.0 c.index_mut.result.now c.write.new.self within c.index_mut.ensures.value cause.0 cause.1)
