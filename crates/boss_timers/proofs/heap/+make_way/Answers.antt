use Rattle.std.proofs.Common.{rules, ◌≡◌, ◌≢◌, ℕ, ◌<◌, length, set, ap, arith}
use Rattle.std.proofs.lemmas.Bool.Decides.{nat_tests}
use Rattle.std.proofs.lemmas.List.{get_or-set_same, get_or-set_other}
use Rattle.boss_timers.specs.Heap.{IsSinking, entries_of, weight, weight_at}
use Rattle.boss_timers.proofs.Heaps.{sink-cost, sinking-sunk}
use Rattle.boss_timers.proofs.Laid.{length-entries}
use Rattle.boss_timers.proofs.heap.+make_way.Goals as goal

pub make_way-requires : goal.make_way-requires
make_way-requires g t c =
    let entries = entries_of c.args.moments.now c.args.slots.now in
    let at = c.args.at in
    let held = c.args.held in
    let least = c.in-Some.least in
    let low = c.in-Some.ensures.below.0 in
    let high = c.in-Some.ensures.below.1 in
    let within = c.in-Some.ensures.within in
    let first = rw c.entry_at.ensures at c.if-comes_first.ensures.order in
    let exchanged = c.lift.ensures.exchanged in
    let here : at < length entries = omega (arith, c.requires.within, length-entries c.args.moments.now c.args.slots.now c.requires.pairs) in
    let others : (k : ℕ) → k ≢ at → weight_at (set entries at held) k ≡ weight_at entries k = λ k differs. ap weight (get_or-set_other entries at k held _ differs) in
    let there : weight_at (set entries at held) at ≡ weight held = ap weight (get_or-set_same entries at held _ here) in
    let first : weight_at entries least < weight held = grind (arith, nat_tests) in
    let less : weight_at (set entries at held) least < weight_at (set entries at held) at = omega (arith, there, others least (omega arith), first) in
    let after = entries_of c.lift.new.moments c.lift.new.slots in
    let sunk : IsSinking (length c.args.moments.now) (weight_at (set after least held)) least =
    sinking-sunk (length c.args.moments.now) (weight_at (set entries at held)) _ at least low high within c.requires.sinking less
    (λ below lo hi inside. omega (arith, others least (omega arith), others below (omega arith), c.in-Some.ensures.least below lo hi inside))
    (ap weight exchanged.here) (ap weight exchanged.there) (λ k one two. ap weight (exchanged.others k one two)) in
    let sinking : IsSinking (length c.lift.new.moments) (weight_at (set after least held)) least = rw c.lift.auto.moments sunk in
    let pairs : length c.lift.new.slots ≡ length c.lift.new.moments = omega (arith, c.lift.auto.slots, c.lift.auto.moments, c.requires.pairs) in
    search (rules, arith, sinking, pairs, c.lift.ensures.indexed)

pub returns-then-comes_first-clause-cost : goal.returns-then-comes_first-clause-cost
returns-then-comes_first-clause-cost g t c =
    let low = c.in-Some.ensures.below.0 in
    let within = c.in-Some.ensures.within in
    sink-cost _ _ _ _ _ _ _ _ c.lift.auto.moments low (omega (arith, low, within)) c.least_below.ensures.cost c.comes_first.ensures.counted c.make_way.ensures.cost
