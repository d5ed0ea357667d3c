use Rattle.std.proofs.Common.{subst, [], ◌∷◌, ◌++◌}
use Rattle.def_history.specs.declared.entry.Entry.TheVariants.{Did}
use Rattle.def_history.specs.History.{IsLegal, run}
use Rattle.boss_expiry.proofs.Ending.{last_is_legal}
use Rattle.boss_expiry.proofs.calls.work.Goals as goal

-- the machine answered it, as it was after all that had been done
pub returns-in-Done-clause-answer : goal.returns-in-Done-clause-answer
returns-in-Done-clause-answer g c =
    let plant = g.G.Desk.plant c.args.desk.now in
    let opening = g.G.Desk.opening c.args.desk.now in
    let turn = c.in-Done.ensures.turn in
    let entry = Did 0 c.args.command.now c.args.moment c.in-Done.answer in
    let legal : IsLegal plant (turn.before ++ entry ∷ []) opening = subst (λ now. IsLegal plant now opening) turn.ends turn.legal in
    (run plant turn.before opening, (last_is_legal plant turn.before entry opening legal).1)
