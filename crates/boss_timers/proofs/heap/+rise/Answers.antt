use Rattle.std.proofs.Common.{◌≡◌, ◌<◌, ◌-◌, ◌/◌, ap, arith, length}
use Rattle.std.proofs.lemmas.Bool.Decides.{nat_tests}
use Rattle.boss_timers.specs.Heap.{entries_of, weight, weight_at}
use Rattle.boss_timers.proofs.Heaps.{hole-from_rising, hole-risen, rise-cost}
use Rattle.boss_timers.proofs.heap.+rise.Goals as goal

pub rise-requires : goal.rise-requires
rise-requires g t c κs within =
    let entries = entries_of c.args.moments.now c.args.slots.now in
    let at = c.args.at in
    let first = rw (c.entry_at.ensures, c.entry_at-2.ensures) at c.if-comes_first.ensures.order in
    let less : weight_at entries at < weight_at entries ((at - 1) / 2) = grind (arith, nat_tests) in
    let hole = hole-from_rising (length c.args.moments.now) (weight_at entries) at c.requires.rising in
    let exchanged = c.exchange.ensures.exchanged in
    let rising = hole-risen (length c.args.moments.now) (weight_at entries) (weight_at (entries_of c.exchange.new.moments c.exchange.new.slots)) at ((at - 1) / 2) (omega arith) (omega arith) c.requires.within hole less (ap weight exchanged.here) (ap weight exchanged.there) (λ k one two. ap weight (exchanged.others k one two)) in
    let pairs : length c.exchange.new.slots ≡ length c.exchange.new.moments = omega (arith, c.exchange.auto.slots, c.exchange.auto.moments, c.requires.pairs) in
    (omega arith, (within, (omega arith, (pairs, (c.exchange.ensures.indexed, rw c.exchange.auto.moments rising)))))

pub returns-then-comes_first-clause-cost : goal.returns-then-comes_first-clause-cost
returns-then-comes_first-clause-cost g t c =
    rise-cost c.args.at _ _ _ (omega arith) c.comes_first.ensures.counted c.rise.ensures.cost
