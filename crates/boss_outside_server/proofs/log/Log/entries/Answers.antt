use Rattle.std.proofs.Common.{sym}
use Rattle.boss_outside_server.proofs.Lists.{map-reverse}
use Rattle.boss_outside_server.proofs.log.Log.entries.Goals as goal

pub returns : goal.returns
returns g c = rw (c.reverse.ensures.items, map-reverse) (sym (rw c.in_default.is at c.loop-link.invariant))
