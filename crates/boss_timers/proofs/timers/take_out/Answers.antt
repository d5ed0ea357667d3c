use Rattle.std.proofs.Common.{◌≡◌, ◌∙◌, ◌<◌, ◌≤◌, ap, arith, length, refl}
use Rattle.std.proofs.lemmas.List.{take_at}
use Rattle.boss_timers.proofs.Laid.{IsLaid-removed, heap-removed, hole-removed, timers-fewer}
use Rattle.boss_timers.proofs.timers.take_out.Goals as goal

pub mend-requires-clause-hole : goal.mend-requires-clause-hole
mend-requires-clause-hole g c =
    let inside : c.args.place < length c.drop_at.new.moments.items = omega (arith, c.len.ensures, c.if-place-len.true) in
    rw (c.deref_mut.ensures.value, c.deref_mut-then-place-len.ensures.value)
    (hole-removed _ _ _ _ _ c.requires.laid c.args.place c.requires.within _ _ c.drop_at.ensures.fewer c.drop_at.ensures.pairs c.drop_at.ensures.others inside)

pub returns-then-place-len-clause-laid : goal.returns-then-place-len-clause-laid
returns-then-place-len-clause-laid g c =
    let same = rw (c.deref_mut.ensures.value, c.deref_mut-then-place-len.ensures.value, c.deref_mut-then-place-len-2.ensures.value) at c.mend.ensures.same in
    let as-many : length c.mend.new.moments ≡ length c.drop_at.new.moments.items = c.mend.auto.moments ∙ ap length c.deref_mut.ensures.value in
    let as-many-slots : length c.mend.new.slots ≡ length c.drop_at.new.slots.items = c.mend.auto.slots ∙ ap length c.deref_mut-then-place-len.ensures.value in
    let pairs : length c.mend.new.slots ≡ length c.mend.new.moments = omega (arith, as-many, as-many-slots, c.drop_at.ensures.pairs) in
    rw (take_at c.mend.new.moments _ _ (c.mend.auto.moments ∙ c.deref_mut.ensures.len), take_at c.mend.new.slots _ _ (c.mend.auto.slots ∙ c.deref_mut-then-place-len.ensures.len), take_at c.mend.new.places _ _ (c.mend.auto.places ∙ c.deref_mut-then-place-len-2.ensures.len), c.drop_at.ensures.room.0, c.drop_at.ensures.room.1)
    (IsLaid-removed _ _ _ _ _ c.requires.laid c.args.place c.requires.within _ _ c.drop_at.ensures.fewer c.drop_at.ensures.pairs c.drop_at.ensures.others _ _ _ as-many pairs (same ∙ c.drop_at.ensures.removed) c.mend.ensures.heap c.mend.ensures.indexed)

pub returns-then-place-len-clause-removed : goal.returns-then-place-len-clause-removed
returns-then-place-len-clause-removed g c =
    let same = rw (c.deref_mut.ensures.value, c.deref_mut-then-place-len.ensures.value, c.deref_mut-then-place-len-2.ensures.value) at c.mend.ensures.same in
    rw (take_at c.mend.new.moments _ _ (c.mend.auto.moments ∙ c.deref_mut.ensures.len), take_at c.mend.new.slots _ _ (c.mend.auto.slots ∙ c.deref_mut-then-place-len.ensures.len), take_at c.mend.new.places _ _ (c.mend.auto.places ∙ c.deref_mut-then-place-len-2.ensures.len))
    (same ∙ c.drop_at.ensures.removed)

pub returns-then-place-len-clause-cost : goal.returns-then-place-len-clause-cost
returns-then-place-len-clause-cost g c d small =
    let size = ap length c.deref_mut.ensures.value in
    c.mend.ensures.cost d (omega (arith, small, size, c.drop_at.ensures.fewer, timers-fewer _ _ _ _ _ c.requires.laid))

pub returns-else-place-len-clause-laid : goal.returns-else-place-len-clause-laid
returns-else-place-len-clause-laid g c =
    let outside : length c.drop_at.new.moments.items ≤ c.args.place = omega (arith, c.len.ensures, c.if-place-len.false) in
    rw (c.drop_at.ensures.room.0, c.drop_at.ensures.room.1)
    (IsLaid-removed _ _ _ _ _ c.requires.laid c.args.place c.requires.within _ _ c.drop_at.ensures.fewer c.drop_at.ensures.pairs c.drop_at.ensures.others _ _ _ refl c.drop_at.ensures.pairs c.drop_at.ensures.removed
    (heap-removed _ _ _ _ _ c.requires.laid c.args.place c.requires.within _ _ c.drop_at.ensures.fewer c.drop_at.ensures.pairs c.drop_at.ensures.others outside) c.drop_at.ensures.indexed)
