use Rattle.boss_stages.proofs.Order.{all_kept-filter, Rising-filter, below-filter}
use Rattle.boss_stages.proofs.list.leave_below.Goals as goal

pub returns-clause-kept : goal.returns-clause-kept
returns-clause-kept c = rw c.close_up.ensures.items (all_kept-filter c.args.entries.now.items)

pub returns-clause-rising : goal.returns-clause-rising
returns-clause-rising c = rw c.close_up.ensures.items (Rising-filter c.args.entries.now.items c.requires.rising)

pub returns-clause-below : goal.returns-clause-below
returns-clause-below c = rw c.close_up.ensures.items (below-filter c.args.limit c.args.entries.now.items c.requires.newest)
