use Rattle.std.proofs.Common.{◌<◌, arith, length, refl}
use Rattle.std.proofs.lemmas.List.{length-set}
use Rattle.boss_timers.specs.Heap.{entries_of}
use Rattle.boss_timers.proofs.Held.{IsExchanged-lifted, IsIndexed-lifted, slot-lifted, times-lifted}
use Rattle.boss_timers.proofs.Laid.{length-entries}
use Rattle.boss_timers.proofs.heap.lift.Goals as goal

pub put-requires-clause-slot : goal.put-requires-clause-slot
put-requires-clause-slot c =
    let entries = entries_of c.args.moments.now c.args.slots.now in
    let inside : c.args.lower < length entries = omega (arith, c.requires.within, length-entries c.args.moments.now c.args.slots.now c.requires.pairs) in
    rw c.entry_at-below.ensures (slot-lifted entries c.args.places.now c.args.upper c.args.lower c.args.held c.requires.order inside c.requires.indexed _ _ refl refl)

pub put-requires-clause-few : goal.put-requires-clause-few
put-requires-clause-few c =
    let entries = entries_of c.args.moments.now c.args.slots.now in
    omega (arith, c.requires.order, c.requires.within, length-entries c.args.moments.now c.args.slots.now c.requires.pairs, length-set entries c.args.upper c.args.held, c.requires.indexed.few)

pub returns-clause-indexed : goal.returns-clause-indexed
returns-clause-indexed c =
    let entries = entries_of c.args.moments.now c.args.slots.now in
    let inside : c.args.lower < length entries = omega (arith, c.requires.within, length-entries c.args.moments.now c.args.slots.now c.requires.pairs) in
    IsIndexed-lifted entries c.args.places.now c.args.upper c.args.lower c.args.held c.requires.order inside c.requires.indexed _ _ (rw c.entry_at-below.ensures at c.put.ensures.entries) (rw c.entry_at-below.ensures at c.put.ensures.places)

pub returns-clause-same : goal.returns-clause-same
returns-clause-same c =
    let entries = entries_of c.args.moments.now c.args.slots.now in
    let inside : c.args.lower < length entries = omega (arith, c.requires.within, length-entries c.args.moments.now c.args.slots.now c.requires.pairs) in
    times-lifted entries c.args.places.now c.args.upper c.args.lower c.args.held c.requires.order inside c.requires.indexed _ _ (rw c.entry_at-below.ensures at c.put.ensures.entries) (rw c.entry_at-below.ensures at c.put.ensures.places)

pub returns-clause-exchanged : goal.returns-clause-exchanged
returns-clause-exchanged c =
    let entries = entries_of c.args.moments.now c.args.slots.now in
    let inside : c.args.lower < length entries = omega (arith, c.requires.within, length-entries c.args.moments.now c.args.slots.now c.requires.pairs) in
    IsExchanged-lifted entries c.args.places.now c.args.upper c.args.lower c.args.held c.requires.order inside c.requires.indexed _ _ (rw c.entry_at-below.ensures at c.put.ensures.entries) (rw c.entry_at-below.ensures at c.put.ensures.places)
