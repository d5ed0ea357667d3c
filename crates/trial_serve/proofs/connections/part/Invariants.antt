use Rattle.boss_outside.specs.contracts.sink.BytesSinkSink.TheImpl.{ghosts as takes}
use Rattle.boss_outside.specs.contracts.source.BytesSourceSource.TheImpl.{ghosts as gives}
use Rattle.boss_outside_server.specs.Hosts.{AreUntouched}
use Rattle.trial_serve.proofs.connections.part.Given as goal

abbrev pub invariant-loop-talk : goal.invariant-loop-talk
invariant-loop-talk g l = record { untouched : AreUntouched gives takes l.part }
