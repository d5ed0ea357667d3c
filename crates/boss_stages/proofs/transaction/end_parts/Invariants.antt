use Rattle.std.proofs.Common.{◌≡◌, ◌++◌, map, take, drop}
use Rattle.boss_stages.specs.Stages.{ended_on}
use Rattle.boss_stages.proofs.transaction.end_parts.Given as goal

abbrev pub invariant-loop-part : goal.invariant-loop-part
invariant-loop-part l = l.parts ≡ map (ended_on l.point (record { cause = l.cause; at = l.at })) (take l.part-index l.initial.parts) ++ drop l.part-index l.initial.parts
