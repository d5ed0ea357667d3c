use Rattle.std.proofs.Common.{[], ◌∷◌, ◌++◌}
use Rattle.def_log.specs.Log.{framed}
use Rattle.boss_journal.proofs.BothWays.{same_bytes}
use Rattle.boss_journal.proofs.laws.both_ways_leave_the_same_bytes.Goals as goal

pub returns : goal.returns
returns c r held place inside = same_bytes 1 (framed r ++ 0 ∷ []) held place inside
