use Rattle.std.proofs.Common.{◌≡◌, ◌≤◌, ◌+◌, ◌*◌, nat_lt, drop}
use Rattle.std.specs.Prelude.{find}
use Rattle.boss_model.specs.Reversions.{turns}
use Rattle.boss_reversion.specs.Playing.{next_boundary}
use Rattle.boss_reversion.proofs.reversions.next_boundary.Given as goal

-- the boundaries seen so far have passed
abbrev pub invariant-loop-step : goal.invariant-loop-step
invariant-loop-step l = record {
  rest : find (λ turn. nat_lt l.now turn) (turns l.end (drop l.step-index l.reversion.steps)) ≡ next_boundary l.reversion l.now;
  soon : l.end ≤ l.reversion.start + 86400000 * l.step-index;
}
