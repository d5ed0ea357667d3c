use Rattle.std.proofs.Common.{sym}
use Rattle.boss_plans.proofs.Instances.{instance_of-refused}
use Rattle.boss_plans.proofs.objects.instance_of.Goals as goal

pub returns-in-Err : goal.returns-in-Err
returns-in-Err c =
    sym (instance_of-refused c.args.text.now c.in-Err.field-0 (rw c.is_instance.ensures at c.if-not-is_instance.false) (rw c.in-Err.is at c.parse.ensures.value.0))
