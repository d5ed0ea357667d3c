use Rattle.std.proofs.Common.{◌≡◌, ◌+◌, drop}
use Rattle.boss_access.specs.Decisions.{denied_by, denied_from}
use Rattle.boss_access.proofs.decision.denied_by.Given as goal

-- no rule so far is for the write
abbrev pub invariant-loop-at : goal.invariant-loop-at
invariant-loop-at l = denied_from (l.at + 1) (drop l.at l.rules) l.process l.point l.priority ≡ denied_by l.rules l.process l.point l.priority
