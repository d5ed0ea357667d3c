use Rattle.std.proofs.Common.{arith}
use Rattle.boss_engine.specs.Inside.{state_of}
use Rattle.boss_engine.proofs.Stepping.{passed-at, passed-moment, passed-well, carried-out}
use Rattle.boss_engine.proofs.machine.Machine.carry_out_plain.Goals as goal

pub act-requires-clause-moment : goal.act-requires-clause-moment
act-requires-clause-moment c =
    passed-moment c.args.plant.now c.args.session c.args.command.now c.args.n c.args.n (state_of c.args.self.now) (omega (arith, c.requires.moment.0))
    c.requires.allowed c.requires.moment.1 c.requires.ready.sound (state_of c.pass_time.new.self) c.pass_time.ensures.state

pub act-requires-clause-passed : goal.act-requires-clause-passed
act-requires-clause-passed c =
    let at = passed-at c.args.plant.now c.args.session c.args.command.now c.args.n c.args.n (state_of c.args.self.now) (omega (arith, c.requires.moment.0))
    c.requires.allowed c.requires.moment.1 c.requires.ready.sound (state_of c.pass_time.new.self) c.pass_time.ensures.state in
    record { reached = at.reached; live = at.live; running = at.running }

pub act-requires-clause-can_run : goal.act-requires-clause-can_run
act-requires-clause-can_run c = record {
  sound = passed-well c.args.plant.now c.args.session c.args.command.now c.args.n c.args.n (state_of c.args.self.now) (omega (arith, c.requires.moment.0))
      c.requires.allowed c.requires.moment.1 c.requires.ready.sound (state_of c.pass_time.new.self) c.pass_time.ensures.state;
  places = c.pass_time.ensures.places;
}

pub returns : goal.returns
returns c =
    carried-out c.args.plant.now c.args.session c.args.command.now c.args.n c.args.n (state_of c.args.self.now) (omega (arith, c.requires.moment.0))
    c.requires.allowed c.requires.moment.1 c.requires.ready.sound (state_of c.pass_time.new.self) c.pass_time.ensures.state c.act.new.self _
    c.act.ensures.answer c.act.ensures.tellable c.act.ensures.apart c.act.ensures.changed c.act.ensures.owner c.now-passed.ensures c.act.ensures.state c.act.ensures.places
    (λ k left default moment. c.act.ensures.untouched default k moment left)
