use Rattle.std.proofs.Common.{◌≡◌}
use Rattle.trial_journal.proofs.reading.read_on.Given as goal

abbrev pub invariant-records : goal.invariant-records
invariant-records g l = l.into.capacity ≡ l.initial.into.capacity
