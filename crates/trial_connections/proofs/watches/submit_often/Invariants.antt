use Rattle.std.proofs.Common.{◌≡◌}
use Rattle.trial_connections.proofs.watches.submit_often.Given as goal

abbrev pub invariant-loop : goal.invariant-loop
invariant-loop g l = record {
  own : g.G.Desk.owns l.desk l.pass;
  parts : g.G.Desk.parts l.pass ≡ g.G.Desk.parts l.initial.pass;
}
