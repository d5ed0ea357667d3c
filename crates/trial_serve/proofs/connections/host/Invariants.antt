use Rattle.std.specs.List.{AllByRecursion}
use Rattle.boss_outside.specs.contracts.sink.BytesSinkSink.TheImpl.{ghosts as takes}
use Rattle.boss_outside.specs.contracts.source.BytesSourceSource.TheImpl.{ghosts as gives}
use Rattle.boss_outside_server.specs.Hosts.{AreUntouched}
use Rattle.trial_serve.proofs.connections.host.Given as goal

abbrev pub invariant-loop-talks : goal.invariant-loop-talks
invariant-loop-talks g l = record { untouched : AllByRecursion (AreUntouched gives takes) l.parts }
