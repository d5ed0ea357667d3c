use Rattle.std.proofs.Common.{◌≡◌, ◌<◌, ◌+◌, ◌-◌, ◌∙◌, ap, arith, length}
use Rattle.std.proofs.lemmas.List.{length-set, take_at}
use Rattle.boss_timers.specs.declared.entry.Entry.{Entry}
use Rattle.boss_timers.specs.Heap.{entries_of, entry_at}
use Rattle.boss_timers.proofs.Indexed.{IsIndexed-taken, times-taken}
use Rattle.boss_timers.proofs.Laid.{IsIndexed-moved, length-entries, place-few, slot-fits, times-moved}
use Rattle.boss_timers.proofs.timers.drop_at.Goals as goal

pub index_mut-requires : goal.index_mut-requires
index_mut-requires c =
    let is = rw (c.deref.ensures.value, c.deref-2.ensures.value) at c.entry_at-gone.ensures in
    omega (arith, ap (λ (e : Entry). e.slot) is, slot-fits c.args.moments.now.items c.args.slots.now.items c.args.places.now.items c.requires.pairs c.requires.indexed c.args.place c.requires.within)

pub put-requires-clause-slot : goal.put-requires-clause-slot
put-requires-clause-slot c =
    let last = length c.args.moments.now.items - 1 in
    let within : last < length c.args.moments.now.items = omega (arith, c.requires.within) in
    let fits = slot-fits c.args.moments.now.items c.args.slots.now.items c.args.places.now.items c.requires.pairs c.requires.indexed last within in
    rw (c.pop_last-last.ensures.last, c.deref_mut-then-place-len-2.ensures.value) (omega (arith, fits, length-set c.args.places.now.items c.entry_at-gone.result.slot c.nowhere.result))

pub put-requires-clause-few : goal.put-requires-clause-few
put-requires-clause-few c = place-few c.args.moments.now.items c.args.slots.now.items c.args.places.now.items c.requires.pairs c.requires.indexed c.args.place c.requires.within

pub returns-then-place-len-clause-indexed : goal.returns-then-place-len-clause-indexed
returns-then-place-len-clause-indexed c =
    let entries = entries_of c.args.moments.now.items c.args.slots.now.items in
    let last = length c.args.moments.now.items - 1 in
    let is-last : last + 1 ≡ length entries = omega (arith, c.requires.within, length-entries c.args.moments.now.items c.args.slots.now.items c.requires.pairs) in
    let before : c.args.place < last = omega (arith, c.len.ensures, c.if-place-len.true, c.pop_last-last.ensures.fewer) in
    let gone = rw (c.deref.ensures.value, c.deref-2.ensures.value) at c.entry_at-gone.ensures in
    let is-entries = rw (c.deref_mut.ensures.value, c.deref_mut-then-place-len.ensures.value, c.pop_last-last.ensures.entries, c.pop_last-last.ensures.last) at c.put.ensures.entries in
    let is-places = rw (c.deref_mut-then-place-len-2.ensures.value, c.nowhere.ensures, gone, c.pop_last-last.ensures.last) at c.put.ensures.places in
    rw (take_at c.put.new.moments _ _ (c.put.auto.moments ∙ c.deref_mut.ensures.len), take_at c.put.new.slots _ _ (c.put.auto.slots ∙ c.deref_mut-then-place-len.ensures.len), take_at c.put.new.places _ _ (c.put.auto.places ∙ c.deref_mut-then-place-len-2.ensures.len), is-entries, is-places)
    (IsIndexed-moved entries c.args.places.now.items c.args.place last is-last before c.requires.indexed)

pub returns-then-place-len-clause-removed : goal.returns-then-place-len-clause-removed
returns-then-place-len-clause-removed c =
    let entries = entries_of c.args.moments.now.items c.args.slots.now.items in
    let last = length c.args.moments.now.items - 1 in
    let is-last : last + 1 ≡ length entries = omega (arith, c.requires.within, length-entries c.args.moments.now.items c.args.slots.now.items c.requires.pairs) in
    let before : c.args.place < last = omega (arith, c.len.ensures, c.if-place-len.true, c.pop_last-last.ensures.fewer) in
    let gone = rw (c.deref.ensures.value, c.deref-2.ensures.value) at c.entry_at-gone.ensures in
    let is-entries = rw (c.deref_mut.ensures.value, c.deref_mut-then-place-len.ensures.value, c.pop_last-last.ensures.entries, c.pop_last-last.ensures.last) at c.put.ensures.entries in
    let is-places = rw (c.deref_mut-then-place-len-2.ensures.value, c.nowhere.ensures, gone, c.pop_last-last.ensures.last) at c.put.ensures.places in
    rw (take_at c.put.new.moments _ _ (c.put.auto.moments ∙ c.deref_mut.ensures.len), take_at c.put.new.slots _ _ (c.put.auto.slots ∙ c.deref_mut-then-place-len.ensures.len), take_at c.put.new.places _ _ (c.put.auto.places ∙ c.deref_mut-then-place-len-2.ensures.len), is-entries, is-places)
    (times-moved entries c.args.places.now.items c.args.place last is-last before c.requires.indexed)

pub returns-else-place-len-clause-indexed : goal.returns-else-place-len-clause-indexed
returns-else-place-len-clause-indexed c =
    let entries = entries_of c.args.moments.now.items c.args.slots.now.items in
    let last = length c.args.moments.now.items - 1 in
    let is-last : last + 1 ≡ length entries = omega (arith, c.requires.within, length-entries c.args.moments.now.items c.args.slots.now.items c.requires.pairs) in
    let is : c.args.place ≡ last = omega (arith, c.len.ensures, c.if-place-len.false, c.pop_last-last.ensures.fewer, c.requires.within) in
    let gone = rw (c.deref.ensures.value, c.deref-2.ensures.value) at c.entry_at-gone.ensures in
    rw (c.pop_last-last.ensures.entries, c.nowhere.ensures, gone)
    (IsIndexed-taken entries c.args.places.now.items last (entry_at entries c.args.place).slot is-last (ap (λ k. (entry_at entries k).slot) is) c.requires.indexed)

pub returns-else-place-len-clause-removed : goal.returns-else-place-len-clause-removed
returns-else-place-len-clause-removed c =
    let entries = entries_of c.args.moments.now.items c.args.slots.now.items in
    let last = length c.args.moments.now.items - 1 in
    let is-last : last + 1 ≡ length entries = omega (arith, c.requires.within, length-entries c.args.moments.now.items c.args.slots.now.items c.requires.pairs) in
    let is : c.args.place ≡ last = omega (arith, c.len.ensures, c.if-place-len.false, c.pop_last-last.ensures.fewer, c.requires.within) in
    let gone = rw (c.deref.ensures.value, c.deref-2.ensures.value) at c.entry_at-gone.ensures in
    rw (c.pop_last-last.ensures.entries, c.nowhere.ensures, gone)
    (times-taken entries c.args.places.now.items last (entry_at entries c.args.place).slot is-last (ap (λ k. (entry_at entries k).slot) is) c.requires.indexed)
