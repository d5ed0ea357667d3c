use borrow.Author.Tests.{ltb-true}
use Rattle.std.proofs.Common.{◌≡◌, length, deque_len, arith}
use Rattle.boss_stages.proofs.Order.{below-last}
use Rattle.boss_stages.proofs.list.are_below.Goals as goal

pub returns-in-Some : goal.returns-in-Some
returns-in-Some c less =
    let entries = c.args.entries.now in
    let len : deque_len entries ≡ length entries.items = omega arith in
    below-last entries.items c.requires c.in-Some.last.now (rw len at c.in-Some.ensures.lookup) c.args.limit (rw c.number.ensures at (ltb-true c.number.result c.args.limit less))
