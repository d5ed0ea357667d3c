use Rattle.std.proofs.Common.{◌≡◌}
use Rattle.trial_following.proofs.stops.events_are_appended_once.Given as goal

abbrev pub invariant-loop : goal.invariant-loop
invariant-loop g l = record { plant : l.durable.engine.plant ≡ l.initial.durable.engine.plant }
