use Rattle.std.proofs.Common.{◌≤◌, subst, arith}
use Rattle.boss_model.specs.State.{State}
use Rattle.boss_engine.specs.Deeds.{IsStep}
use Rattle.boss_engine.specs.Inside.{state_of}
use Rattle.boss_engine.proofs.Seen.{seen-act}
use Rattle.boss_engine.proofs.Stepping.{begins}
use Rattle.boss_engine.proofs.machine.Machine.step_plain.Goals as goal

pub open_unless-requires : goal.open_unless-requires
open_unless-requires c = seen-act c.args.plant.now c.args.self.now c.args.is_open c.requires.ready.sound c.requires.ready.places

pub carry_out_plain-deed-requires-clause-moment : goal.carry_out_plain-deed-requires-clause-moment
carry_out_plain-deed-requires-clause-moment c =
    let begun = begins c.args.plant.now c.args.command.now c.args.moment c.now-before.result c.max-n.result (state_of c.open_unless.new.self) _ c.open_unless.ensures.state
    c.requires.allowed c.requires.moment c.requires.ready.sound c.now-before.ensures c.max-n.ensures in
    let now : (state_of c.open_unless.new.self).persistent.now ≤ 1152921504606846976 = begun.sound.persistent.now in
    (omega (arith, c.max-n.ensures, c.now-before.ensures), omega (arith, c.max-n.ensures, c.now-before.ensures, c.requires.moment, now))

pub carry_out_plain-deed-requires-clause-ready : goal.carry_out_plain-deed-requires-clause-ready
carry_out_plain-deed-requires-clause-ready c =
    let begun = begins c.args.plant.now c.args.command.now c.args.moment c.now-before.result c.max-n.result (state_of c.open_unless.new.self) _ c.open_unless.ensures.state
    c.requires.allowed c.requires.moment c.requires.ready.sound c.now-before.ensures c.max-n.ensures in
    record { sound = begun.sound; places = c.open_unless.ensures.places }

pub finish-requires : goal.finish-requires
finish-requires c =
    let begun = begins c.args.plant.now c.args.command.now c.args.moment c.now-before.result c.max-n.result (state_of c.open_unless.new.self) _ c.open_unless.ensures.state
    c.requires.allowed c.requires.moment c.requires.ready.sound c.now-before.ensures c.max-n.ensures in
    (c.args.session, c.args.command.now, c.args.moment, state_of c.open_unless.new.self, begun, c.carry_out_plain-deed.ensures)

pub returns-clause-did : goal.returns-clause-did
returns-clause-did c =
    let begun = begins c.args.plant.now c.args.command.now c.args.moment c.now-before.result c.max-n.result (state_of c.open_unless.new.self) _ c.open_unless.ensures.state
    c.requires.allowed c.requires.moment c.requires.ready.sound c.now-before.ensures c.max-n.ensures in
    subst (λ (from : State). IsStep c.args.plant.now c.args.session c.args.command.now c.args.moment from (state_of c.finish.new.self) c.finish.result.0 c.finish.result.1)
    c.open_unless.ensures.state (c.finish.ensures.did c.args.session c.args.command.now c.args.moment (state_of c.open_unless.new.self) begun c.carry_out_plain-deed.ensures)
