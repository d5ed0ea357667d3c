use Rattle.std.proofs.Common.{◌≡◌, ℕ, length, ap, refl, sym, subst, ◌∙◌}
use Rattle.std.proofs.lemmas.List.{length-map}
use Rattle.boss_model.specs.declared.command.Command.{Command}
use Rattle.boss_model.specs.declared.state.Actuator.{Actuator}
use Rattle.boss_model.specs.Machine.{pass_time, step}
use Rattle.boss_model.specs.Sound.{IsSound}
use Rattle.boss_model.specs.State.{Persistent, State}
use Rattle.law_soundness.proofs.StepSound.{step-sound}
use Rattle.boss_engine.specs.Deeds.{IsBegun, IsDone}
use Rattle.boss_engine.specs.Replies.{IsTellable, told}
use Rattle.boss_persistent.specs.declared.lasting.Lasting.{Lasting}
use Rattle.boss_persistent.specs.Lasting.{IsKept, persistent_of}
use Rattle.boss_engine.specs.Waiting as waiting
use Rattle.boss_engine.proofs.Keeping.{kept-flags}
use Rattle.boss_engine.proofs.Stepping.{told-by, answered, stepped, acted-playable, acted-number}
use Rattle.boss_engine.proofs.machine.Machine.finish.Goals as goal

pub settle-requires-clause-number : goal.settle-requires-clause-number
settle-requires-clause-number c =
    let g = c.requires in
    acted-number c.args.plant.now g.0 g.1 g.2 c.args.n g.3 g.4.at g.4.allowed g.4.small g.4.sound (pass_time c.args.plant.now c.args.n g.3) refl _ g.5.state c.args.self.now.marks refl

pub settle-requires-clause-pending : goal.settle-requires-clause-pending
settle-requires-clause-pending c =
    let g = c.requires in
    acted-playable c.args.plant.now g.0 g.1 g.2 c.args.n g.3 g.4.at g.4.allowed g.4.small g.4.sound (pass_time c.args.plant.now c.args.n g.3) refl _ g.5.state

pub settle-requires-clause-drivers : goal.settle-requires-clause-drivers
settle-requires-clause-drivers c = ap length c.requires.5.places.drivers ∙ length-map c.args.plant.now (λ (actuator : Actuator). actuator.driver)

pub settle-requires-clause-points : goal.settle-requires-clause-points
settle-requires-clause-points c = c.requires.5.places.points

pub settle-requires-clause-few : goal.settle-requires-clause-few
settle-requires-clause-few c = c.requires.5.places.small

pub settle-requires-clause-current : goal.settle-requires-clause-current
settle-requires-clause-current c = c.requires.5.current

over : (c : goal.After-effect_of-effect) (session : ℕ) (command : Command) (moment : ℕ) (s : State) → IsBegun c.args.plant.now command moment c.args.before c.args.n s →
    IsDone c.args.plant.now session command c.args.n s c.args.self.now c.args.deed →
    record { persistent = persistent_of c.settle.new.lasting; attached = c.args.self.now.attached.items; proxies = c.settle.new.marks.proxies; wants = c.settle.new.marks.wants }
    ≡ (step c.args.plant.now session command moment s).state
over c session command moment s begun done =
    (λ i. waiting.state_of (persistent_of (c.settle.ensures.others i)) c.args.self.now.attached.items (c.settle.ensures.marks i))
    ∙ stepped c.args.plant.now session command moment c.args.n s begun.at begun.allowed begun.small begun.sound (pass_time c.args.plant.now c.args.n s) refl _ done.state

pub returns-clause-did : goal.returns-clause-did
returns-clause-did c = λ session command moment s begun done. record {
  answer = ap (λ (l : Lasting). told (persistent_of l) c.args.deed.done.reply) c.settle.ensures.others
      ∙ answered c.args.plant.now session command moment c.args.n s begun.at begun.allowed begun.small begun.sound (pass_time c.args.plant.now c.args.n s) refl _ done.answer;
  tellable = subst (λ (d : Persistent). IsTellable c.args.plant.now d c.args.deed.done.reply) (sym (ap persistent_of c.settle.ensures.others)) done.tellable;
  apart = done.apart;
  effect = c.effect_of-effect.ensures
      ∙ told-by c.args.plant.now session command moment c.args.n s begun.at begun.allowed begun.small begun.sound (pass_time c.args.plant.now c.args.n s) refl _ _ _
      done.changed done.owner begun.first done.passed;
  state = over c session command moment s begun done;
}

pub returns-clause-ready : goal.returns-clause-ready
returns-clause-ready c =
    let g = c.requires in
    let places = g.5.places in
    record {
      sound = subst (IsSound c.args.plant.now) (sym (over c g.0 g.1 g.2 g.3 g.4 g.5)) (step-sound c.args.plant.now g.0 g.1 g.2 g.3 g.4.allowed g.4.small g.4.sound);
      places = record {
        small = places.small;
        drivers = ap (λ marks. marks.drivers) c.settle.ensures.marks ∙ places.drivers;
        points = places.points ∙ sym (ap (λ (l : Lasting). l.holdings.points) c.settle.ensures.others);
        rows = subst IsKept (sym c.settle.ensures.others) (kept-flags c.args.self.now.lasting c.settle.new.lasting.holdings.touched places.rows);
        attached = places.attached;
        told = places.told;
      };
    }
