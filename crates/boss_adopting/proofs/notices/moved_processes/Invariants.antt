use Rattle.std.proofs.Common.{◌≡◌, map, take}
use Rattle.boss_model.specs.Seen.{seen_process}
use Rattle.law_adoption.specs.Adopted.{moved_process}
use Rattle.boss_adopting.specs.Places.{places_of}
use Rattle.boss_adopting.proofs.notices.moved_processes.Given as goal

abbrev pub invariant-loop-process : goal.invariant-loop-process
invariant-loop-process l = map seen_process l.moved.items ≡ map (moved_process (places_of l.numbering)) (map seen_process (take l.process-index l.processes))
