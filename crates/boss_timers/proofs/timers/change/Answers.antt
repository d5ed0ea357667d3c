use Rattle.std.proofs.Common.{◌≡◌, ◌∙◌, ap, arith, length}
use Rattle.std.proofs.lemmas.List.{length-set, take_at}
use Rattle.boss_timers.proofs.Kept.{indexed-change}
use Rattle.boss_timers.proofs.Laid.{IsLaid-changed, hole-changed, inside-changed, is-changed, timers-fewer, times-changed}
use Rattle.boss_timers.proofs.timers.change.Goals as goal

pub index_mut-requires : goal.index_mut-requires
index_mut-requires g c = omega (arith, inside-changed _ _ _ _ _ c.requires.laid _ c.args.entry c.requires.leads)

pub mend-requires-clause-within : goal.mend-requires-clause-within
mend-requires-clause-within g c =
    omega (arith, ap length c.deref_mut.ensures.value, length-set c.args.moments.now.items c.args.place c.args.entry.moment, inside-changed _ _ _ _ _ c.requires.laid _ c.args.entry c.requires.leads)

pub mend-requires-clause-indexed : goal.mend-requires-clause-indexed
mend-requires-clause-indexed g c =
    rw (c.deref_mut.ensures.value, c.deref_mut-2.ensures.value)
    (indexed-change _ _ _ _ c.args.entry c.requires.laid.kept c.requires.leads _ _ (is-changed _ _ _ _ _ c.requires.laid _ c.args.entry c.requires.leads) c.deref_mut-3.ensures.value)

pub mend-requires-clause-hole : goal.mend-requires-clause-hole
mend-requires-clause-hole g c = rw (c.deref_mut.ensures.value, c.deref_mut-2.ensures.value) (hole-changed _ _ _ _ _ c.requires.laid _ c.args.entry c.requires.leads)

pub returns-clause-laid : goal.returns-clause-laid
returns-clause-laid g c =
    let same = rw (c.deref_mut.ensures.value, c.deref_mut-2.ensures.value, c.deref_mut-3.ensures.value) at c.mend.ensures.same in
    let as-many = c.mend.auto.moments ∙ ap length c.deref_mut.ensures.value in
    let as-many-slots = c.mend.auto.slots ∙ ap length c.deref_mut-2.ensures.value in
    let as-many-places = c.mend.auto.places ∙ ap length c.deref_mut-3.ensures.value in
    let pairs : length c.mend.new.slots ≡ length c.mend.new.moments = omega (arith, as-many, as-many-slots, c.requires.laid.pairs, length-set c.args.moments.now.items c.args.place c.args.entry.moment) in
    rw (take_at c.mend.new.moments _ _ (c.mend.auto.moments ∙ c.deref_mut.ensures.len), take_at c.mend.new.slots _ _ (c.mend.auto.slots ∙ c.deref_mut-2.ensures.len), take_at c.mend.new.places _ _ (c.mend.auto.places ∙ c.deref_mut-3.ensures.len))
    (IsLaid-changed _ _ _ _ _ c.requires.laid _ c.args.entry c.requires.leads _ _ _ as-many pairs as-many-places same c.mend.ensures.heap c.mend.ensures.indexed)

pub returns-clause-set : goal.returns-clause-set
returns-clause-set g c =
    let same = rw (c.deref_mut.ensures.value, c.deref_mut-2.ensures.value, c.deref_mut-3.ensures.value) at c.mend.ensures.same in
    let as-many = c.mend.auto.moments ∙ ap length c.deref_mut.ensures.value in
    let as-many-slots = c.mend.auto.slots ∙ ap length c.deref_mut-2.ensures.value in
    let as-many-places = c.mend.auto.places ∙ ap length c.deref_mut-3.ensures.value in
    let pairs : length c.mend.new.slots ≡ length c.mend.new.moments = omega (arith, as-many, as-many-slots, c.requires.laid.pairs, length-set c.args.moments.now.items c.args.place c.args.entry.moment) in
    rw (take_at c.mend.new.moments _ _ (c.mend.auto.moments ∙ c.deref_mut.ensures.len), take_at c.mend.new.slots _ _ (c.mend.auto.slots ∙ c.deref_mut-2.ensures.len), take_at c.mend.new.places _ _ (c.mend.auto.places ∙ c.deref_mut-3.ensures.len))
    (times-changed _ _ _ _ _ c.requires.laid _ c.args.entry c.requires.leads _ _ _ as-many pairs as-many-places same)

pub returns-clause-cost : goal.returns-clause-cost
returns-clause-cost g c d small =
    let size = ap length c.deref_mut.ensures.value in
    c.mend.ensures.cost d (omega (arith, small, size, length-set c.args.moments.now.items c.args.place c.args.entry.moment, timers-fewer _ _ _ _ _ c.requires.laid))
