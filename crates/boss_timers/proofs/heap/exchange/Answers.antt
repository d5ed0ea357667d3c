use Rattle.std.proofs.Common.{◌<◌, ◌∙◌, Some, ap, arith, length, set}
use Rattle.boss_timers.specs.Heap.{entries_of}
use Rattle.boss_timers.proofs.Indexed.{IsExchanged-both, IsIndexed-both, times-both}
use Rattle.boss_timers.proofs.Laid.{length-entries, place-few, slot-fits}
use Rattle.boss_timers.proofs.heap.exchange.Goals as goal

pub put-requires-clause-slot : goal.put-requires-clause-slot
put-requires-clause-slot c = rw c.entry_at-below.ensures (slot-fits c.args.moments.now c.args.slots.now c.args.places.now c.requires.pairs c.requires.indexed c.args.lower c.requires.within)

pub put-requires-clause-few : goal.put-requires-clause-few
put-requires-clause-few c = place-few c.args.moments.now c.args.slots.now c.args.places.now c.requires.pairs c.requires.indexed c.args.upper (omega (arith, c.requires.order, c.requires.within))

pub put-requires-2-clause-slot : goal.put-requires-2-clause-slot
put-requires-2-clause-slot c =
    let upper : c.args.upper < length c.args.moments.now = omega (arith, c.requires.order, c.requires.within) in
    rw (c.put.auto.places, c.entry_at-above.ensures) (slot-fits c.args.moments.now c.args.slots.now c.args.places.now c.requires.pairs c.requires.indexed c.args.upper upper)

pub put-requires-2-clause-few : goal.put-requires-2-clause-few
put-requires-2-clause-few c = place-few c.args.moments.now c.args.slots.now c.args.places.now c.requires.pairs c.requires.indexed c.args.lower c.requires.within

pub returns-clause-indexed : goal.returns-clause-indexed
returns-clause-indexed c =
    let entries = entries_of c.args.moments.now c.args.slots.now in
    let inside : c.args.lower < length entries = omega (arith, c.requires.within, length-entries c.args.moments.now c.args.slots.now c.requires.pairs) in
    let is-entries = rw (c.entry_at-above.ensures, c.entry_at-below.ensures) at (c.put-2.ensures.entries ∙ ap (λ es. set es c.args.lower c.entry_at-above.result) c.put.ensures.entries) in
    let is-places = rw (c.entry_at-above.ensures, c.entry_at-below.ensures) at (c.put-2.ensures.places ∙ ap (λ ps. set ps c.entry_at-above.result.slot (Some c.args.lower)) c.put.ensures.places) in
    IsIndexed-both entries c.args.places.now c.args.upper c.args.lower c.requires.order inside c.requires.indexed _ _ is-entries is-places

pub returns-clause-same : goal.returns-clause-same
returns-clause-same c =
    let entries = entries_of c.args.moments.now c.args.slots.now in
    let inside : c.args.lower < length entries = omega (arith, c.requires.within, length-entries c.args.moments.now c.args.slots.now c.requires.pairs) in
    let is-entries = rw (c.entry_at-above.ensures, c.entry_at-below.ensures) at (c.put-2.ensures.entries ∙ ap (λ es. set es c.args.lower c.entry_at-above.result) c.put.ensures.entries) in
    let is-places = rw (c.entry_at-above.ensures, c.entry_at-below.ensures) at (c.put-2.ensures.places ∙ ap (λ ps. set ps c.entry_at-above.result.slot (Some c.args.lower)) c.put.ensures.places) in
    times-both entries c.args.places.now c.args.upper c.args.lower c.requires.order inside c.requires.indexed _ _ is-entries is-places

pub returns-clause-exchanged : goal.returns-clause-exchanged
returns-clause-exchanged c =
    let entries = entries_of c.args.moments.now c.args.slots.now in
    let inside : c.args.lower < length entries = omega (arith, c.requires.within, length-entries c.args.moments.now c.args.slots.now c.requires.pairs) in
    let is-entries = rw (c.entry_at-above.ensures, c.entry_at-below.ensures) at (c.put-2.ensures.entries ∙ ap (λ es. set es c.args.lower c.entry_at-above.result) c.put.ensures.entries) in
    let is-places = rw (c.entry_at-above.ensures, c.entry_at-below.ensures) at (c.put-2.ensures.places ∙ ap (λ ps. set ps c.entry_at-above.result.slot (Some c.args.lower)) c.put.ensures.places) in
    IsExchanged-both entries c.args.places.now c.args.upper c.args.lower c.requires.order inside c.requires.indexed _ _ is-entries is-places
