use Rattle.std.proofs.Common.{take}
use Rattle.boss_durable.specs.Begun.{WantNone}
use Rattle.boss_durable.proofs.wanting.before_want.Given as goal

abbrev pub invariant-loop-place : goal.invariant-loop-place
invariant-loop-place l = WantNone l.engine.state (take l.place l.commands)
