use Rattle.std.proofs.Common.{◌≡◌, ◌+◌, ◌*◌}
use Rattle.boss_lock.specs.Places.{total}
use Rattle.boss_lock.specs.Seats.{own_entries}
use Rattle.trial_parts.proofs.histories.add_all.Given as goal

abbrev pub invariant-loop : goal.invariant-loop
invariant-loop g l = record {
  same : l.seat ≡ record l.fn.seat { seen = l.seat.seen; places = l.seat.places };
  made : total (λ n. n) (own_entries l.seat) ≡ total (λ n. n) (own_entries l.fn.seat) + l.counter * l.by;
}
