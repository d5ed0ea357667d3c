use Rattle.std.proofs.Common.{subst}
use Rattle.boss_disk_pair.specs.Causes.{Counts, counts_of}
use Rattle.boss_durable.specs.Begun.{BegunCause}
use Rattle.boss_durable.proofs.Askings.{then_leaves, then_passes}
use Rattle.boss_durable.proofs.durable.Durable.begin_at.Goals as goal

pub returns-in-Ok-clause-keeps : goal.returns-in-Ok-clause-keeps
returns-in-Ok-clause-keeps g c before held fine = c.begin.ensures.keeps before (c.in-Ok.ensures.keeps before held) fine

pub returns-in-Ok-clause-leaves : goal.returns-in-Ok-clause-leaves
returns-in-Ok-clause-leaves g c before held =
    then_leaves c.args.self.now c.confirm.new.self c.begin.new.self c.confirm.ensures.engine (c.begin.ensures.leaves before (c.in-Ok.ensures.keeps before held))

pub returns-in-Ok-clause-passes : goal.returns-in-Ok-clause-passes
returns-in-Ok-clause-passes g c before held =
    then_passes c.args.self.now c.confirm.new.self c.begin.new.self c.confirm.ensures.engine (c.confirm.ensures.passes before held)
    (c.begin.ensures.passes before (c.in-Ok.ensures.keeps before held))

pub returns-in-Ok-clause-cause : goal.returns-in-Ok-clause-cause
returns-in-Ok-clause-cause g c =
    subst (λ (before : Counts). BegunCause before (counts_of c.begin.new.self.disks) c.begin.result) c.in-Ok.ensures.cause.1 c.begin.ensures.cause
