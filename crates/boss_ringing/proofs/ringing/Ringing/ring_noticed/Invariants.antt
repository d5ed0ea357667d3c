use Rattle.std.proofs.Common.{◌≡◌}
use Rattle.boss_ringing.specs.Rising.{RangNames}
use Rattle.boss_ringing.proofs.ringing.Ringing.ring_noticed.Given as goal

abbrev pub invariant-loop : goal.invariant-loop
invariant-loop g l = record {
  keeper : l.self.keeper ≡ l.initial.self.keeper;
  drivers : l.self.drivers ≡ l.initial.self.drivers;
  rang : RangNames g.B.Ringer.tells g.B.Ringer.whole g.B.Ringer.rung l.initial.self.ringer l.self.ringer;
}
