use Rattle.std.proofs.Common.{length}
use Rattle.boss_persistent.proofs.Holders.{held-below}
use Rattle.boss_persistent.proofs.refusals.attach_refused.Goals as goal

pub name-requires : goal.name-requires
name-requires c =
    (held-below c.args.attached.now c.args.session c.in-Some.process (length c.args.lasting.now.processes) c.requires c.in-Some.ensures)
