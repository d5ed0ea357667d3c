use Rattle.std.proofs.Common.{◌≡◌, drop, map}
use Rattle.def_wire.specs.Requests.{each_from, step_at}
use Rattle.boss_requests.specs.Given.{fault_of}
use Rattle.boss_requests.proofs.writes.fault_in_steps.Given as goal

-- the values so far have no fault
abbrev pub invariant-loop-at : goal.invariant-loop-at
invariant-loop-at g l = fault_of (each_from (step_at l.write) l.at (map g.V.JsonValue.meaning (drop l.at l.values))) ≡ fault_of (each_from (step_at l.write) 0 (map g.V.JsonValue.meaning l.values))
