use Rattle.std.proofs.Common.{Some, refl}
use Rattle.boss_model.specs.declared.answer.Answer.TheVariants as answer
use Rattle.boss_model.specs.declared.command.Command.TheVariants.{Notices}
use Rattle.boss_watching.proofs.CallLemmas.{asked-done, asked-page, asked-nothing-else, asked-broken}
use Rattle.boss_watching.proofs.asking.ask.Goals as goal

pub returns-in-Notices-clause-done : goal.returns-in-Notices-clause-done
returns-in-Notices-clause-done g c = (
  c.in-Notices.first,
  asked-done _ _ _ _ _ _ _ c.args.session c.args.from c.args.moment c.args.name.now c.copied.result c.in-Done.answer
      (answer.Notices c.in-Notices.first c.in-Notices.next c.in-Notices.list) c.copied.ensures c.in-Notices.is c.in-Done.ensures.turn,
)

pub returns-in-Notices-clause-goes_on : goal.returns-in-Notices-clause-goes_on
returns-in-Notices-clause-goes_on g c =
    asked-page _ _ _ _ _ _ _ c.args.session c.args.from c.args.moment c.args.name.now c.copied.result c.in-Done.answer
    (answer.Notices c.in-Notices.first c.in-Notices.next c.in-Notices.list) c.copied.ensures c.in-Notices.is c.in-Done.ensures.turn
    (g.met.G.Desk.owned c.args.desk.now c.args.pass.now c.requires.own) c.requires.from

pub unreachable-requires : goal.unreachable-requires
unreachable-requires g c =
    asked-nothing-else _ _ _ _ _ _ _ c.args.session c.args.from c.args.moment c.args.name.now c.copied.result
    c.in-Done.answer c.in-Done.answer c.copied.ensures refl c.in-Done.ensures.turn (g.met.G.Desk.owned c.args.desk.now c.args.pass.now c.requires.own) c.requires.from
    (λ first next list is. c.in_default.not-Notices first next list is)

pub returns-in-DiskFault-clause-cut : goal.returns-in-DiskFault-clause-cut
returns-in-DiskFault-clause-cut g c =
    asked-broken _ _ _ _ _ _ _ c.args.session c.args.from c.args.moment (Notices (Some c.copied.result) c.args.from 64) c.in-DiskFault.ensures.turn
