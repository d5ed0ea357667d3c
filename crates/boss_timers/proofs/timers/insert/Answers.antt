use Rattle.std.proofs.Common.{◌≡◌, ◌∙◌, Some, ap, arith, length, set}
use Rattle.std.proofs.lemmas.List.{length_push, take_at}
use Rattle.boss_timers.proofs.Laid.{IsLaid-inserted, fewer-inserted, indexed-inserted, rising-inserted, timers-fewer, times-inserted}
use Rattle.boss_timers.proofs.timers.insert.Goals as goal

pub push_reserved-requires : goal.push_reserved-requires
push_reserved-requires g c = omega (arith, fewer-inserted _ _ _ _ _ c.requires.laid c.args.entry c.requires.within c.requires.none, c.requires.laid.kept.room)

pub push_reserved-requires-2 : goal.push_reserved-requires-2
push_reserved-requires-2 g c = omega (arith, fewer-inserted _ _ _ _ _ c.requires.laid c.args.entry c.requires.within c.requires.none, c.requires.laid.pairs, c.requires.laid.room)

pub overflow_cast-place : goal.overflow_cast-place
overflow_cast-place g c = omega (arith, c.len-place.ensures, fewer-inserted _ _ _ _ _ c.requires.laid c.args.entry c.requires.within c.requires.none, c.requires.laid.kept.few)

pub at-requires : goal.at-requires
at-requires g c = omega (arith, c.len-place.ensures, fewer-inserted _ _ _ _ _ c.requires.laid c.args.entry c.requires.within c.requires.none, c.requires.laid.kept.few)

pub rise-requires-clause-indexed : goal.rise-requires-clause-indexed
rise-requires-clause-indexed g c =
    let size : c.len-place.result ≡ length c.args.moments.now.items = omega (arith, c.len-place.ensures) in
    rw (c.deref_mut.ensures.value, c.deref_mut-2.ensures.value, c.deref_mut-3.ensures.value, c.push_reserved.ensures.items, c.push_reserved-2.ensures.items, c.at.ensures, size)
    (indexed-inserted _ _ _ _ _ c.requires.laid c.args.entry c.requires.within c.requires.none)

pub rise-requires-clause-rising : goal.rise-requires-clause-rising
rise-requires-clause-rising g c =
    let size : c.len-place.result ≡ length c.args.moments.now.items = omega (arith, c.len-place.ensures) in
    rw (c.deref_mut.ensures.value, c.deref_mut-2.ensures.value, c.push_reserved.ensures.items, c.push_reserved-2.ensures.items, size)
    (rising-inserted _ _ _ _ _ c.requires.laid c.args.entry c.requires.within c.requires.none)

pub returns-clause-laid : goal.returns-clause-laid
returns-clause-laid g c =
    let size : c.len-place.result ≡ length c.args.moments.now.items = omega (arith, c.len-place.ensures) in
    let same = rw (c.deref_mut.ensures.value, c.deref_mut-2.ensures.value, c.deref_mut-3.ensures.value, c.push_reserved.ensures.items, c.push_reserved-2.ensures.items, c.at.ensures, size) at c.rise.ensures.same in
    let as-many = c.rise.auto.moments ∙ ap length (c.deref_mut.ensures.value ∙ c.push_reserved.ensures.items) in
    let as-many-slots = c.rise.auto.slots ∙ ap length (c.deref_mut-2.ensures.value ∙ c.push_reserved-2.ensures.items) in
    let as-many-places = c.rise.auto.places ∙ ap length (c.deref_mut-3.ensures.value ∙ ap (set c.args.places.now.items c.args.entry.slot) (c.at.ensures ∙ ap Some size)) in
    let pairs : length c.rise.new.slots ≡ length c.rise.new.moments = omega (arith, as-many, as-many-slots, c.requires.laid.pairs, length_push c.args.moments.now.items c.args.entry.moment, length_push c.args.slots.now.items c.args.entry.slot) in
    rw (take_at c.rise.new.moments _ _ (c.rise.auto.moments ∙ c.deref_mut.ensures.len), take_at c.rise.new.slots _ _ (c.rise.auto.slots ∙ c.deref_mut-2.ensures.len), take_at c.rise.new.places _ _ (c.rise.auto.places ∙ c.deref_mut-3.ensures.len), c.push_reserved.ensures.capacity, c.push_reserved-2.ensures.capacity)
    (IsLaid-inserted _ _ _ _ _ c.requires.laid c.args.entry c.requires.within c.requires.none _ _ _ as-many pairs as-many-places same c.rise.ensures.heap c.rise.ensures.indexed)

pub returns-clause-set : goal.returns-clause-set
returns-clause-set g c =
    let size : c.len-place.result ≡ length c.args.moments.now.items = omega (arith, c.len-place.ensures) in
    let same = rw (c.deref_mut.ensures.value, c.deref_mut-2.ensures.value, c.deref_mut-3.ensures.value, c.push_reserved.ensures.items, c.push_reserved-2.ensures.items, c.at.ensures, size) at c.rise.ensures.same in
    let as-many = c.rise.auto.moments ∙ ap length (c.deref_mut.ensures.value ∙ c.push_reserved.ensures.items) in
    let as-many-slots = c.rise.auto.slots ∙ ap length (c.deref_mut-2.ensures.value ∙ c.push_reserved-2.ensures.items) in
    let as-many-places = c.rise.auto.places ∙ ap length (c.deref_mut-3.ensures.value ∙ ap (set c.args.places.now.items c.args.entry.slot) (c.at.ensures ∙ ap Some size)) in
    let pairs : length c.rise.new.slots ≡ length c.rise.new.moments = omega (arith, as-many, as-many-slots, c.requires.laid.pairs, length_push c.args.moments.now.items c.args.entry.moment, length_push c.args.slots.now.items c.args.entry.slot) in
    rw (take_at c.rise.new.moments _ _ (c.rise.auto.moments ∙ c.deref_mut.ensures.len), take_at c.rise.new.slots _ _ (c.rise.auto.slots ∙ c.deref_mut-2.ensures.len), take_at c.rise.new.places _ _ (c.rise.auto.places ∙ c.deref_mut-3.ensures.len))
    (times-inserted _ _ _ _ _ c.requires.laid c.args.entry c.requires.within c.requires.none _ _ _ as-many pairs as-many-places same)

pub returns-clause-cost : goal.returns-clause-cost
returns-clause-cost g c d small =
    let size : c.len-place.result ≡ length c.args.moments.now.items = omega (arith, c.len-place.ensures) in
    omega (arith, c.rise.ensures.cost d (omega (arith, small, size, timers-fewer _ _ _ _ _ c.requires.laid)))
