use Rattle.std.proofs.Common.{List, sym, subst, ap, ◌∙◌}
use Rattle.boss_model.specs.declared.state.Actuator.{Actuator}
use Rattle.boss_model.specs.Sound.{IsAllowed}
use Rattle.boss_engine.specs.Deeds.{IsStep}
use Rattle.boss_engine.specs.Inside.{CanRun, IsRunnable, seen_state, state_of}
use Rattle.boss_engine.specs.Running.{Running}
use Rattle.boss_engine.proofs.engine.Engine.advance.Goals as goal

pub step_plain-did-requires-clause-allowed : goal.step_plain-did-requires-clause-allowed
step_plain-did-requires-clause-allowed c =
    subst (λ (plant : List Actuator). IsAllowed plant c.args.command.now) (sym (c.deref.ensures.value ∙ ap (λ r. r.plant) c.self.view_is)) c.requires.allowed

pub step_plain-did-requires-clause-ready : goal.step_plain-did-requires-clause-ready
step_plain-did-requires-clause-ready c =
    subst (λ (plant : List Actuator). IsRunnable plant c.self.inside.machine c.self.inside.is_open) (sym c.deref.ensures.value)
    (record { sound = c.self.invariant.sound; places = c.self.invariant.places })

pub invariant_of-self : goal.invariant_of-self
invariant_of-self c =
    let run : CanRun c.self.inside.plant.items c.step_plain-did.new.self = subst (λ (plant : List Actuator). CanRun plant c.step_plain-did.new.self) c.deref.ensures.value c.step_plain-did.ensures.ready in
    record { sound = run.sound; places = run.places }

pub returns-clause-did : goal.returns-clause-did
returns-clause-did c =
    let inside = c.self.inside in
    subst (λ (r : Running). IsStep r.plant c.args.session c.args.command.now c.args.moment r.state (state_of c.step_plain-did.new.self) c.step_plain-did.result.0 c.step_plain-did.result.1) c.self.view_is
    (subst (λ (plant : List Actuator). IsStep plant c.args.session c.args.command.now c.args.moment (seen_state plant inside.machine inside.is_open) (state_of c.step_plain-did.new.self) c.step_plain-did.result.0 c.step_plain-did.result.1)
    c.deref.ensures.value c.step_plain-did.ensures.did)
