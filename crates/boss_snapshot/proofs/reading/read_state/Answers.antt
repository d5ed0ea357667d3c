use Rattle.std.proofs.Common.{sym, subst}
use Rattle.std.specs.Prelude.{IfErr, IfOk}
use Rattle.boss_model.specs.Seen.{seen}
use Rattle.boss_snapshot.specs.Fronts.{IsStateHead}
use Rattle.boss_snapshot.specs.Refusals.{IsKeptState, Refuses}
use Rattle.boss_snapshot.proofs.reading.read_state.Goals as goal

pub returns-clause-finds : goal.returns-clause-finds
returns-clause-finds g c told =
    let same = c.in_ok-head.ensures.reads told in
    let digest = c.args.digest.now in
    let head = c.in_ok-head.head in
    subst (λ r. IfOk c.read_spelled.result (λ x. IsKeptState digest r (seen x.0) x.1 x.2)) same
    (c.read_spelled.ensures.finds told digest
    (subst (λ r. IsStateHead digest r head.version head.events head.size head.seed) (sym same) (c.in_ok-head.ensures.finds told)))

pub returns-clause-refuses : goal.returns-clause-refuses
returns-clause-refuses g c told =
    let same = c.in_ok-head.ensures.reads told in
    let digest = c.args.digest.now in
    let head = c.in_ok-head.head in
    subst (λ r. IfErr c.read_spelled.result (Refuses digest r)) same
    (c.read_spelled.ensures.refuses told digest
    (subst (λ r. IsStateHead digest r head.version head.events head.size head.seed) (sym same) (c.in_ok-head.ensures.finds told)))
