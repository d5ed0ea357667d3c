use Rattle.std.proofs.Common.{◌≡◌, ◌+◌, ◌∙◌, Some, None, IsSome, ap, sym}
use Rattle.slab.specs.Slab.{slab_len}
use Rattle.boss_leases.specs.Leases.{found, place_of}
use Rattle.boss_leases.proofs.Kept.{IsKept-taken, seen-taken, seen-at, set-nothing, on_some}
use Rattle.boss_leases.proofs.leases.Leases.take.Goals as goal

pub returns-in_err-place-clause-left : goal.returns-in_err-place-clause-left
returns-in_err-place-clause-left c =
    let nowhere : place_of c.self.inside.places.items c.args.key ≡ None = ap (λ places. place_of places c.args.key) (sym c.deref.ensures.value) ∙ sym c.in_err-place.ensures in
    rw (← c.self.view_is) (set-nothing _ _ (seen-at c.self.inside.slab c.self.inside.places.items c.args.key ∙ ap (found c.self.inside.slab) nowhere))

pub invariant_of-self : goal.invariant_of-self
invariant_of-self c =
    let leads : place_of c.self.inside.places.items c.args.key ≡ Some c.in_ok-place.place = ap (λ places. place_of places c.args.key) (sym c.deref.ensures.value) ∙ sym c.in_ok-place.ensures in
    let there : IsSome c.try_remove.result = rw c.try_remove.ensures.value (c.self.invariant.there c.args.key c.in_ok-place.place leads) in
    let less = on_some c.try_remove.result (slab_len c.try_remove.new.self + 1 ≡ slab_len c.self.inside.slab) there c.try_remove.ensures.len in
    rw (c.push_reserved.ensures.items, c.push_reserved.ensures.capacity) (IsKept-taken _ _ _ _ _ _ _ c.self.invariant leads c.try_remove.ensures.updates less c.try_remove.ensures.capacity)

pub returns-clause-left : goal.returns-clause-left
returns-clause-left c =
    let leads : place_of c.self.inside.places.items c.args.key ≡ Some c.in_ok-place.place = ap (λ places. place_of places c.args.key) (sym c.deref.ensures.value) ∙ sym c.in_ok-place.ensures in
    rw (← c.self.view_is) (seen-taken _ _ _ _ _ _ _ c.self.invariant leads c.try_remove.ensures.updates)
