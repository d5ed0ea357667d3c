use Rattle.std.proofs.Common.{◌≡◌, ◌≤◌, ◌+◌, ◌*◌, ◌&&◌, nat_lt, nat_le, max, drop}
use Rattle.std.specs.List.{filter, fold}
use Rattle.boss_model.specs.Reversions.{turns}
use Rattle.boss_reversion.specs.Playing.{last_turn}
use Rattle.boss_reversion.proofs.reversions.last_turn.Given as goal

-- the last of the turns seen so far, and how the others go on
abbrev pub invariant-loop-step : goal.invariant-loop-step
invariant-loop-step l = record {
  rest : fold max l.last (filter (λ turn. nat_lt l.now turn && nat_le turn l.n) (turns l.end (drop l.step-index l.steps))) ≡ last_turn l.start l.steps l.now l.n;
  soon : l.end ≤ l.start + 86400000 * l.step-index;
}
