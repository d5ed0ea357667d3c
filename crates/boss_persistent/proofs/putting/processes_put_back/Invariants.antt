use Rattle.std.proofs.Common.{◌≡◌, map, take}
use Rattle.boss_model.specs.Seen.{seen_process}
use Rattle.boss_persistent.proofs.putting.processes_put_back.Given as goal

abbrev pub invariant-loop-process : goal.invariant-loop-process
invariant-loop-process l = l.processes ≡ map seen_process (take l.process-index l.kept)
