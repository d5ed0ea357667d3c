use Rattle.boss_assignment.proofs.Steps.{and-one}
use Rattle.boss_assignment.proofs.assigning.assign_parts.Goals as goal

pub loop-part-preserved : goal.loop-part-preserved
loop-part-preserved g c = and-one g.A.Actuators c.loop-part.yielded c.in-Some.part c.args.devices.now.items c.loop-part.devices.items c.assign_part.new.devices.items c.loop-part.invariant c.assign_part.ensures
