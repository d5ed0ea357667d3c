use Rattle.std.proofs.Common.{◌≡◌, ◌≤◌, ◌+◌, ◌*◌, drop}
use Rattle.boss_model.specs.Reversions.{value_from}
use Rattle.boss_reversion.proofs.reversions.value_at.Given as goal

-- the steps seen so far have ended
abbrev pub invariant-loop-step : goal.invariant-loop-step
invariant-loop-step l = record {
  rest : value_from l.end (drop l.step-index l.reversion.steps) l.moment ≡ value_from l.reversion.start l.reversion.steps l.moment;
  past : l.end ≤ l.moment;
  soon : l.end ≤ l.reversion.start + 86400000 * l.step-index;
}
