use Rattle.std.proofs.Common.{sym}
use Rattle.boss_timers.proofs.Laid.{entry-read}
use Rattle.boss_timers.proofs.heap.entry_at.Goals as goal

pub returns : goal.returns
returns c = sym (entry-read c.args.moments.now c.args.slots.now c.args.place c.requires.pairs)
