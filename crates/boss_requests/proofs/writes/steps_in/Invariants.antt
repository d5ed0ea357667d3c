use Rattle.std.proofs.Common.{◌≡◌, drop, map}
use Rattle.def_wire.specs.Requests.{each_from, step_at}
use Rattle.boss_requests.proofs.Each.{onto}
use Rattle.boss_requests.proofs.writes.steps_in.Given as goal

-- the steps so far and those to come are all
abbrev pub invariant-loop-at : goal.invariant-loop-at
invariant-loop-at g l = onto l.steps (each_from (step_at l.write) l.at (map g.V.JsonValue.meaning (drop l.at l.values))) ≡ each_from (step_at l.write) 0 (map g.V.JsonValue.meaning l.values)
