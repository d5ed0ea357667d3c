use Rattle.std.proofs.Common.{◌<◌, ◌-◌, ◌/◌, ap, arith, length}
use Rattle.std.proofs.lemmas.Bool.Decides.{nat_tests}
use Rattle.boss_timers.specs.Heap.{entries_of, weight, weight_at}
use Rattle.boss_timers.proofs.Heaps.{hole-risen, mend-cost-down, mend-cost-up}
use Rattle.boss_timers.proofs.heap.mend.Goals as goal

pub returns-then-at-eq0-clause-cost : goal.returns-then-at-eq0-clause-cost
returns-then-at-eq0-clause-cost g c = mend-cost-down _ _ _ _ _ c.requires.within (omega arith) c.sink.ensures.cost

pub rise-requires-clause-rising : goal.rise-requires-clause-rising
rise-requires-clause-rising g c =
    let entries = entries_of c.args.moments.now c.args.slots.now in
    let at = c.args.at in
    let first = rw (c.entry_at.ensures, c.entry_at-2.ensures) at c.if-comes_first.ensures.order in
    let less : weight_at entries at < weight_at entries ((at - 1) / 2) = grind (arith, nat_tests) in
    let exchanged = c.exchange.ensures.exchanged in
    let rising = hole-risen (length c.args.moments.now) (weight_at entries) (weight_at (entries_of c.exchange.new.moments c.exchange.new.slots)) at ((at - 1) / 2) (omega arith) (omega arith) c.requires.within c.requires.hole less (ap weight exchanged.here) (ap weight exchanged.there) (λ k one two. ap weight (exchanged.others k one two)) in
    rw c.exchange.auto.moments rising

pub returns-then-comes_first-clause-cost : goal.returns-then-comes_first-clause-cost
returns-then-comes_first-clause-cost g c = mend-cost-up _ _ _ _ _ (omega arith) c.requires.within c.comes_first.ensures.counted c.rise.ensures.cost

pub returns-else-comes_first-clause-cost : goal.returns-else-comes_first-clause-cost
returns-else-comes_first-clause-cost g c = mend-cost-down _ _ _ _ _ c.requires.within (omega arith) c.sink-else-comes_first.ensures.cost
