use Rattle.std.proofs.Common.{◌≡◌, ◌-◌, ◌≤◌, nat_lt, drop}
use Rattle.boss_model.specs.Reversions.{over, end_of}
use Rattle.boss_reversion.proofs.reversions.outlasts.Given as goal

-- the steps seen so far have ended
abbrev pub invariant-loop-step : goal.invariant-loop-step
invariant-loop-step l = record {
  rest : nat_lt l.moment (over (l.moment - l.played) (drop l.step-index l.reversion.steps)) ≡ nat_lt l.moment (end_of l.reversion);
  within : l.played ≤ l.moment;
}
