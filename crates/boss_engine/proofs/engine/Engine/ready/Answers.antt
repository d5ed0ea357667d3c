use Rattle.std.proofs.Common.{◌≡◌, List, sym, subst, ap, ◌∙◌}
use Rattle.std.proofs.lemmas.Result.{on_err_weaker}
use Rattle.std.specs.Result.{IfOk}
use Rattle.boss_model.specs.declared.state.Actuator.{Actuator}
use Rattle.boss_model.specs.Sound.{IsAllowed}
use Rattle.boss_engine.specs.Deeds.{IsStep}
use Rattle.boss_engine.specs.Inside.{CanRun, IsRunnable, seen_state, state_of}
use Rattle.boss_engine.specs.Ready.{MayNeedMemory}
use Rattle.boss_engine.specs.Running.{Running}
use Rattle.boss_engine.proofs.engine.Engine.ready.Goals as goal

pub step_ready-did-requires-clause-allowed : goal.step_ready-did-requires-clause-allowed
step_ready-did-requires-clause-allowed c =
    subst (λ (plant : List Actuator). IsAllowed plant c.args.command.now) (sym (c.deref.ensures.value ∙ ap (λ r. r.plant) c.self.view_is)) c.requires.allowed

pub step_ready-did-requires-clause-ready : goal.step_ready-did-requires-clause-ready
step_ready-did-requires-clause-ready c =
    subst (λ (plant : List Actuator). IsRunnable plant c.self.inside.machine c.self.inside.is_open) (sym c.deref.ensures.value)
    (record { sound = c.self.invariant.sound; places = c.self.invariant.places })

pub invariant_of-self : goal.invariant_of-self
invariant_of-self c =
    let run : CanRun c.self.inside.plant.items c.step_ready-did.new.self = subst (λ (plant : List Actuator). CanRun plant c.step_ready-did.new.self) c.deref.ensures.value c.step_ready-did.ensures.ready in
    record { sound = run.sound; places = run.places }

pub returns-clause-did : goal.returns-clause-did
returns-clause-did c =
    let inside = c.self.inside in
    subst (λ (r : Running). IfOk c.step_ready-did.result (λ did. IsStep r.plant c.args.session c.args.command.now c.args.moment r.state (state_of c.step_ready-did.new.self) did.0 did.1)) c.self.view_is
    (subst (λ (plant : List Actuator). IfOk c.step_ready-did.result (λ did. IsStep plant c.args.session c.args.command.now c.args.moment (seen_state plant inside.machine inside.is_open) (state_of c.step_ready-did.new.self) did.0 did.1))
    c.deref.ensures.value c.step_ready-did.ensures.did)

pub returns-clause-err : goal.returns-clause-err
returns-clause-err c =
    let inside = c.self.inside in
    let same = ap (λ (plant : List Actuator). seen_state plant inside.machine inside.is_open) c.deref.ensures.value ∙ ap (λ r. r.state) c.self.view_is in
    on_err_weaker c.step_ready-did.result (λ (is : state_of c.step_ready-did.new.self ≡ seen_state c.deref.result.now inside.machine inside.is_open).
    λ i. record { plant = (ap (λ r. r.plant) c.self.view_is) i; state = (is ∙ same) i }) c.step_ready-did.ensures.err

pub returns-clause-memory : goal.returns-clause-memory
returns-clause-memory c =
    let inside = c.self.inside in
    on_err_weaker c.step_ready-did.result (λ needs. subst (λ (r : Running). MayNeedMemory r.plant c.args.session c.args.command.now r.state) c.self.view_is
    (subst (λ (plant : List Actuator). MayNeedMemory plant c.args.session c.args.command.now (seen_state plant inside.machine inside.is_open)) c.deref.ensures.value needs)) c.step_ready-did.ensures.memory
