use Rattle.std.proofs.Common.{◌∙◌, sym}
use Rattle.boss_slots.proofs.Kept.{lease-there}
use Rattle.boss_slots.proofs.looking.lease_in.Goals as goal

pub returns : goal.returns
returns c = c.get.ensures ∙ sym (lease-there c.args.tables.now c.args.point c.args.priority c.in_ok-key.key c.in_ok-key.ensures.some)
