use Rattle.def_history.specs.declared.outcome.Outcome.TheVariants.{Done, Stopped, DiskFault}
use Rattle.boss_model.specs.declared.command.Command.TheVariants as command
use Rattle.boss_sessions.proofs.HoldingLemmas.{others-after}
use Rattle.boss_sessions.proofs.PartingLemmas.{parts-of}
use Rattle.boss_sessions.proofs.parting.part.Goals as goal
use Rattle.boss_sessions.proofs.parting.part.Goals.{in-Done, in-Stopped, in-DiskFault}

pub returns-clause-parted : goal.returns-clause-parted
returns-clause-parted g c = elim c.match-call.branch [
  | in-Done w ↦ parts-of _ _ _ _ (g.G.Desk.seen c.args.pass.now) w.in-Done.ensures.turn.before _ (Done w.in-Done.answer) _ _ w.in-Done.ensures.turn.goes_on w.in-Done.ensures.turn.entries
      w.in-Done.ensures.turn.stopped_is (w.result-is, w.in-Done.ensures.failed)
  | in-Stopped w ↦ parts-of _ _ _ _ (g.G.Desk.seen c.args.pass.now) w.in-Stopped.ensures.turn.before _ Stopped _ _ w.in-Stopped.ensures.turn.goes_on w.in-Stopped.ensures.turn.entries
      w.in-Stopped.ensures.turn.stopped_is (w.result-is, w.in-Stopped.ensures.failed)
  | in-DiskFault w ↦ parts-of _ _ _ _ (g.G.Desk.seen c.args.pass.now) w.in-DiskFault.ensures.turn.before _ DiskFault _ _ w.in-DiskFault.ensures.turn.goes_on w.in-DiskFault.ensures.turn.entries
      w.in-DiskFault.ensures.turn.stopped_is (w.result-is, w.in-DiskFault.ensures.failed)
]

pub returns-clause-others : goal.returns-clause-others
returns-clause-others g c = others-after (g.G.Desk.denies c.args.desk.now) c.args.session (g.G.Desk.held c.args.pass.now) (g.G.Desk.held c.call.new.pass) command.Gone c.call.result c.call.ensures.held
