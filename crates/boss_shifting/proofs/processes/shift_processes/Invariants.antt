use Rattle.std.proofs.Common.{◌≡◌, ◌++◌, map, take, drop}
use Rattle.boss_model.specs.Seen.{seen_process}
use Rattle.law_shift.specs.Shifted.{shifted_process}
use Rattle.boss_shifting.proofs.processes.shift_processes.Given as goal

abbrev pub invariant-loop-process : goal.invariant-loop-process
invariant-loop-process l = map seen_process l.processes ≡ map (shifted_process l.by) (take l.process-index (map seen_process l.initial.processes)) ++ drop l.process-index (map seen_process l.initial.processes)
