use Rattle.boss_timers.proofs.Laid.{entries-set}
use Rattle.boss_timers.proofs.heap.put.Goals as goal

pub returns-clause-entries : goal.returns-clause-entries
returns-clause-entries c = entries-set c.args.moments.now c.args.slots.now c.args.place c.args.entry
