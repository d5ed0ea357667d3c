use Rattle.boss_assignment.specs.Assignments.{Assigns}
use Rattle.boss_assignment.proofs.assigning.assign_parts.Given as goal

-- the parts so far were told
abbrev pub invariant-loop-part : goal.invariant-loop-part
invariant-loop-part g l = Assigns g.A.Actuators l.yielded l.initial.devices.items l.devices.items
