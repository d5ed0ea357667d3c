use Rattle.std.proofs.Common.{subst}
use Rattle.boss_model.specs.Tellable.{IsTellable}
use Rattle.boss_drive.proofs.Asking.{known_point, next_answer, only_next}
use Rattle.boss_drive.proofs.want.next.Goals as goal

-- what can be told is of a point of the plant
pub returns-in-Want-clause-known : goal.returns-in-Want-clause-known
returns-in-Want-clause-known g c = known_point (g.G.Desk.plant c.args.desk.now) c.in-Want.point
    (λ catalogue is. subst (λ given. IsTellable catalogue given) c.in-Want.is (c.in-Ok.ensures.told catalogue is))

pub unreachable-requires : goal.unreachable-requires
unreachable-requires g c = only_next c.in-Ok.answer
    (next_answer (g.G.Desk.plant c.args.desk.now) c.args.driver c.args.moment c.in-Ok.answer c.in-Ok.ensures.answer)
    (λ point version value is. c.in_default.not-Want point version value is) (λ is. c.in_default.not-Nothing is)
