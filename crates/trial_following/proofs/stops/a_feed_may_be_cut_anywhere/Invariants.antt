use Rattle.std.proofs.Common.{◌≡◌}
use Rattle.trial_following.proofs.stops.a_feed_may_be_cut_anywhere.Given as goal

abbrev pub invariant-loop-size : goal.invariant-loop-size
invariant-loop-size g l = record { plant : l.durable.engine.plant ≡ l.initial.durable.engine.plant }
