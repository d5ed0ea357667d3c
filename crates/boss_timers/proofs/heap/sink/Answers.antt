use Rattle.std.proofs.Common.{◌<◌, ◌∙◌, arith, length}
use Rattle.boss_timers.specs.Heap.{entries_of}
use Rattle.boss_timers.proofs.Laid.{IsIndexed-held, place-few, place-there, slot-fits, times-held}
use Rattle.boss_timers.proofs.heap.sink.Goals as goal

pub make_way-end-requires-clause-indexed : goal.make_way-end-requires-clause-indexed
make_way-end-requires-clause-indexed g c =
    let inside = place-there c.args.moments.now c.args.slots.now c.args.places.now c.requires.pairs c.requires.indexed c.args.at c.requires.within in
    IsIndexed-held (entries_of c.args.moments.now c.args.slots.now) c.args.places.now c.args.at c.entry_at-entry.result c.entry_at-entry.ensures inside c.requires.indexed

pub put-requires-clause-slot : goal.put-requires-clause-slot
put-requires-clause-slot g c = rw (c.make_way-end.auto.places, c.entry_at-entry.ensures) (slot-fits c.args.moments.now c.args.slots.now c.args.places.now c.requires.pairs c.requires.indexed c.args.at c.requires.within)

pub put-requires-clause-few : goal.put-requires-clause-few
put-requires-clause-few g c =
    let within : c.make_way-end.result < length c.args.moments.now = omega (arith, c.make_way-end.ensures.within, c.make_way-end.auto.moments) in
    place-few c.args.moments.now c.args.slots.now c.args.places.now c.requires.pairs c.requires.indexed c.make_way-end.result within

pub returns-clause-same : goal.returns-clause-same
returns-clause-same g c =
    let inside = place-there c.args.moments.now c.args.slots.now c.args.places.now c.requires.pairs c.requires.indexed c.args.at c.requires.within in
    rw (c.put.ensures.entries, c.put.ensures.places)
    (c.make_way-end.ensures.same ∙ times-held (entries_of c.args.moments.now c.args.slots.now) c.args.places.now c.args.at c.entry_at-entry.result c.entry_at-entry.ensures inside c.requires.indexed)
