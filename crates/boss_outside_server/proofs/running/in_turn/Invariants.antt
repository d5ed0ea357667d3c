use Rattle.std.proofs.Common.{◌+◌, ◌≤◌, List, ◌++◌, vec_len, vec_capacity, length}
use Rattle.boss_outside_server.specs.Tasks.{AreCarriedOut, AreReady}
use Rattle.boss_outside_server.specs.declared.task.Ran.{Ran}
use Rattle.boss_outside_server.proofs.running.in_turn.Given as goal

-- whatever carries out those that wait carries out all
abbrev pub invariant-loop-next : goal.invariant-loop-next
invariant-loop-next g l =
    ((more : List (Ran g.row.T.Denot)) → AreCarriedOut g.T.Task.ran g.T.Task.abandoned l.waiting.items more
    → AreCarriedOut g.T.Task.ran g.T.Task.abandoned l.fn.planned.items (l.done.items ++ more))
    × AreReady g.T.Task.ready l.waiting.items
    × (vec_len l.done + length l.waiting.items ≤ vec_capacity l.done)

abbrev pub decreases-loop-next : goal.decreases-loop-next
decreases-loop-next g l = length l.waiting.items
