use Rattle.std.proofs.Common.{rules}
use Rattle.std.proofs.lemmas.List.Sorted.{answers_always}
use Rattle.boss_booking.specs.Gathered.{told_rank}
use Rattle.law_due.proofs.Ordering.{is_before, is_before-orders, sorted-in_order}
use Rattle.boss_booking.proofs.happening.put_in_order.Goals as goal

-- what the sort gives is in order, and has the items that there were
pub returns-clause-order : goal.returns-clause-order
returns-clause-order c = sorted-in_order told_rank c.args.told.now.items c.requires c.sort_unstable_by.new.self.items c.sort_unstable_by.ensures.permutation
    (c.sort_unstable_by.ensures.sorted (is_before told_rank) (is_before-orders told_rank) (answers_always _ _ _ (λ f a r g h. search rules)))
