use Rattle.std.proofs.Common.{◌≡◌, ◌^◌, ◌-◌, min, sum_by, take}
use Rattle.boss_load_run.proofs.counting.notices_sent.Given as goal

-- the notices of the processes so far
abbrev pub invariant-loop-process : goal.invariant-loop-process
invariant-loop-process l = l.notices ≡ min (sum_by (λ process. process.count) (take l.process-index l.processes)) (2 ^ 64 - 1)
