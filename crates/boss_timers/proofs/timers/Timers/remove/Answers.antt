use Rattle.std.proofs.Common.{◌≡◌, ◌<◌, ◌∙◌, None, Some, ap, arith, length, set, sym}
use Rattle.std.proofs.lemmas.List.{get_or_read}
use Rattle.boss_timers.specs.Heap.{entries_of, moment_at, place_of, times}
use Rattle.boss_timers.proofs.Indexed.{set-nothing, times-at}
use Rattle.boss_timers.proofs.Kept.{slots-of-times}
use Rattle.boss_timers.proofs.Laid.{entries-many}
use Rattle.boss_timers.proofs.timers.Timers.remove.Goals as goal

pub take_out-requires-clause-within : goal.take_out-requires-clause-within
take_out-requires-clause-within g c =
    let entries = entries_of c.self.inside.moments.items c.self.inside.slots.items in
    let places = c.self.inside.places.items in
    let asked = rw (← c.self.view_is) at c.requires in
    let within : c.args.slot < length places = omega (arith, asked, slots-of-times entries places) in
    let leads : place_of places c.args.slot ≡ Some c.in-Some.place = sym (get_or_read places c.args.slot c.index.result.now within c.index.ensures None) ∙ sym c.get.ensures ∙ c.in-Some.is in
    omega (arith, (c.self.invariant.kept.indexed.back c.args.slot c.in-Some.place leads).0, entries-many _ _ _ _ _ c.self.invariant)

pub returns-in-Some-clause-removed : goal.returns-in-Some-clause-removed
returns-in-Some-clause-removed g c =
    let entries = entries_of c.self.inside.moments.items c.self.inside.slots.items in
    let places = c.self.inside.places.items in
    let asked = rw (← c.self.view_is) at c.requires in
    let within : c.args.slot < length places = omega (arith, asked, slots-of-times entries places) in
    let leads : place_of places c.args.slot ≡ Some c.in-Some.place = sym (get_or_read places c.args.slot c.index.result.now within c.index.ensures None) ∙ sym c.get.ensures ∙ c.in-Some.is in
    rw (← c.self.view_is) (c.take_out.ensures.removed ∙ ap (λ slot. set (times entries places) slot None) (c.self.invariant.kept.indexed.back c.args.slot c.in-Some.place leads).1)

pub returns-in_default-clause-removed : goal.returns-in_default-clause-removed
returns-in_default-clause-removed g c =
    let entries = entries_of c.self.inside.moments.items c.self.inside.slots.items in
    let places = c.self.inside.places.items in
    let asked = rw (← c.self.view_is) at c.requires in
    let within : c.args.slot < length places = omega (arith, asked, slots-of-times entries places) in
    let nowhere : place_of places c.args.slot ≡ None = sym (get_or_read places c.args.slot c.index.result.now within c.index.ensures None) ∙ sym c.get.ensures ∙ c.in_default.is in
    rw (← c.self.view_is) (set-nothing (times entries places) c.args.slot (times-at entries places c.args.slot ∙ ap (moment_at entries) nowhere))
