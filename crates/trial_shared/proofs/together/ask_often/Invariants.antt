use Rattle.std.proofs.Common.{◌≡◌}
use Rattle.boss_shared.specs.Together.{MayAsk}
use Rattle.trial_shared.proofs.together.ask_often.Given as goal

abbrev pub invariant-loop : goal.invariant-loop
invariant-loop g l = record {
  own : g.G.Desk.owns l.desk l.pass;
  parts : g.G.Desk.parts l.pass ≡ g.G.Desk.parts l.fn.pass;
  may : MayAsk (g.G.Desk.plant l.desk) l.asked;
}
