use Rattle.std.proofs.Common.{◌≡◌, ◌≤◌, ◌+◌, ◌*◌, drop}
use Rattle.boss_model.specs.Reversions.{over}
use Rattle.boss_reversion.proofs.reversions.over.Given as goal

-- the steps still to come are over when all are
abbrev pub invariant-loop-step : goal.invariant-loop-step
invariant-loop-step l = record {
  rest : over l.moment (drop l.step-index l.steps) ≡ over l.start l.steps;
  soon : l.moment ≤ l.start + 86400000 * l.step-index;
}
