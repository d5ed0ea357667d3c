use Rattle.std.proofs.Common.{◌≡◌, ◌<◌, ℕ, min, false, slice_index_or}
use Rattle.boss_model.specs.Limits.{most_drivers}
use Rattle.boss_ringing.specs.Rising.{has_want, risen, Rang}
use Rattle.boss_ringing.proofs.ringing.Ringing.ring_risen.Given as goal

abbrev pub invariant-loop-driver : goal.invariant-loop-driver
invariant-loop-driver g l = record {
  keeper : l.self.keeper ≡ l.initial.self.keeper;
  drivers : l.self.drivers ≡ l.initial.self.drivers;
  rang : (plant : _) (s : _) → plant ≡ g.K.Keeper.plant l.initial.self.keeper →
      ((k : ℕ) → k < min l.initial.self.drivers most_drivers → slice_index_or l.before k false ≡ has_want plant s k) →
      Rang g.B.Ringer.tells g.B.Ringer.whole g.B.Ringer.rung (risen plant s (g.K.Keeper.state l.initial.self.keeper) l.driver) l.initial.self.ringer l.self.ringer;
}
