use Rattle.std.proofs.Common.{◌≡◌, ◌<◌, ◌∙◌, ap, arith, get_or, length, sym}
use Rattle.std.proofs.lemmas.List.{get_or_read}
use Rattle.boss_timers.specs.declared.entry.Entry.{Entry}
use Rattle.boss_timers.specs.Heap.{entries_of, entry_at}
use Rattle.boss_timers.proofs.Kept.{IsFirst-top}
use Rattle.boss_timers.proofs.Laid.{entries-many, entry-read}
use Rattle.boss_timers.proofs.timers.Timers.first.Goals as goal

pub returns-clause-some : goal.returns-clause-some
returns-clause-some c =
    let moments = c.self.inside.moments.items in
    let slots = c.self.inside.slots.items in
    let item = c.in_ok-moment.ensures.item in
    let some = rw c.deref.ensures.value at item.3.0 in
    let moment : c.in_ok-moment.field-0.now ≡ get_or moments 0 0 = item.3.1 0 ∙ ap (λ ms. get_or ms 0 0) c.deref.ensures.value in
    let within : 0 < length slots = omega (arith, some, c.self.invariant.pairs) in
    let slot : c.index.result.now ≡ get_or slots 0 0 = get_or_read slots 0 c.index.result.now within c.index.ensures 0 in
    let first : Entry = record { moment = c.in_ok-moment.field-0.now; slot = c.index.result.now } in
    let top : first ≡ entry_at (entries_of moments slots) 0 = rw (moment, slot) (sym (entry-read moments slots 0 c.self.invariant.pairs)) in
    let inside : 0 < length (entries_of moments slots) = omega (arith, some, entries-many _ _ _ _ _ c.self.invariant) in
    rw (← c.self.view_is) (IsFirst-top _ _ _ first c.self.invariant.kept inside top)
