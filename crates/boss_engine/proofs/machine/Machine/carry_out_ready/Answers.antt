use Rattle.std.proofs.Common.{ap, sym, subst, ◌∙◌, arith}
use Rattle.boss_model.specs.Machine.{pass_time}
use Rattle.boss_engine.specs.Inside.{state_of}
use Rattle.boss_engine.specs.Ready.{IsReadyFor}
use Rattle.boss_engine.proofs.Readied.{readied}
use Rattle.boss_engine.proofs.Stepping.{passed-moment, passed-well, carried-out}
use Rattle.boss_engine.proofs.machine.Machine.carry_out_ready.Goals as goal

pub act_ready-requires-clause-ready : goal.act_ready-requires-clause-ready
act_ready-requires-clause-ready c = subst (IsReadyFor c.args.plant.now c.args.session c.args.command.now c.args.n c.in_ok-ready.ready) (sym (c.pass_time.ensures.state ∙ ap (pass_time c.args.plant.now c.args.n) c.in_ok-ready.ensures.state))
    (readied c.args.plant.now c.args.session c.args.command.now c.args.n c.in_ok-ready.ready (state_of c.args.self.now) c.in_ok-ready.ensures.ready)

pub act_ready-requires-clause-moment : goal.act_ready-requires-clause-moment
act_ready-requires-clause-moment c =
    passed-moment c.args.plant.now c.args.session c.args.command.now c.args.n c.args.n (state_of c.args.self.now) (omega (arith, c.requires.moment.0))
    c.requires.allowed c.requires.moment.1 c.requires.ready.sound (state_of c.pass_time.new.self) (c.pass_time.ensures.state ∙ ap (pass_time c.args.plant.now c.args.n) c.in_ok-ready.ensures.state)

pub act_ready-requires-clause-can_run : goal.act_ready-requires-clause-can_run
act_ready-requires-clause-can_run c = record {
  sound = passed-well c.args.plant.now c.args.session c.args.command.now c.args.n c.args.n (state_of c.args.self.now) (omega (arith, c.requires.moment.0))
      c.requires.allowed c.requires.moment.1 c.requires.ready.sound (state_of c.pass_time.new.self) (c.pass_time.ensures.state ∙ ap (pass_time c.args.plant.now c.args.n) c.in_ok-ready.ensures.state);
  places = c.pass_time.ensures.places;
}

pub returns-clause-deed : goal.returns-clause-deed
returns-clause-deed c =
    carried-out c.args.plant.now c.args.session c.args.command.now c.args.n c.args.n (state_of c.args.self.now) (omega (arith, c.requires.moment.0))
    c.requires.allowed c.requires.moment.1 c.requires.ready.sound (state_of c.pass_time.new.self) (c.pass_time.ensures.state ∙ ap (pass_time c.args.plant.now c.args.n) c.in_ok-ready.ensures.state) c.act_ready.new.self _
    c.act_ready.ensures.answer c.act_ready.ensures.tellable c.act_ready.ensures.apart c.act_ready.ensures.changed c.act_ready.ensures.owner c.now-passed.ensures c.act_ready.ensures.state c.act_ready.ensures.places
    (λ k left default moment. c.act_ready.ensures.untouched default k moment left)
