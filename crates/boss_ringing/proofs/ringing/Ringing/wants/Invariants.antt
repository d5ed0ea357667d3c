use Rattle.std.proofs.Common.{◌≡◌, ◌<◌, ℕ, false, length, slice_index_or}
use Rattle.boss_ringing.specs.Rising.{has_want}
use Rattle.boss_ringing.proofs.ringing.Ringing.wants.Given as goal

abbrev pub invariant-loop-driver : goal.invariant-loop-driver
invariant-loop-driver g l = (length l.wants ≡ 256) × ((k : ℕ) → k < l.driver → slice_index_or l.wants k false ≡ has_want (g.K.Keeper.plant l.self.keeper) (g.K.Keeper.state l.self.keeper) k)
