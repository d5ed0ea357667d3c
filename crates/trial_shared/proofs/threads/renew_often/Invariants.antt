use Rattle.std.proofs.Common.{◌≡◌}
use Rattle.trial_shared.proofs.threads.renew_often.Given as goal

abbrev pub invariant-loop-moment : goal.invariant-loop-moment
invariant-loop-moment g l = record {
  own : g.G.Desk.owns l.desk l.pass;
  parts : g.G.Desk.parts l.pass ≡ g.G.Desk.parts l.fn.pass;
}
