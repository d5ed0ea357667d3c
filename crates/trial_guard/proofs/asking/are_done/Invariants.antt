use Rattle.std.proofs.Common.{◌≡◌}
use Rattle.trial_guard.proofs.asking.are_done.Given as goal

abbrev pub invariant-loop-line : goal.invariant-loop-line
invariant-loop-line g l = record {
  own : g.G.Desk.owns l.desk l.pass;
  parts : g.G.Desk.parts l.pass ≡ g.G.Desk.parts l.initial.pass;
}
