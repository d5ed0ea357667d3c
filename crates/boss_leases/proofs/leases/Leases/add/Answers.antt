use Rattle.std.proofs.Common.{◌<◌, ◌∙◌, ap, arith, vec_len}
use Rattle.std.proofs.lemmas.List.{length-map}
use Rattle.boss_leases.specs.Leases.{found}
use Rattle.boss_leases.proofs.Kept.{IsKept-added, IsKept-popped, nowhere-before, seen-added, seen-at, some-free, within-before}
use Rattle.boss_leases.proofs.leases.Leases.add.Goals as goal

pub unwrap-key-requires : goal.unwrap-key-requires
unwrap-key-requires c =
    let some = some-free _ _ _ _ c.self.invariant (rw (← c.self.view_is) at c.requires) in
    let there : 0 < vec_len c.self.inside.free = omega arith in
    c.pop.ensures.variant.1 there

pub index_mut-requires : goal.index_mut-requires
index_mut-requires c =
    let kept = IsKept-popped _ _ _ _ _ _ _ _ c.pop.ensures.items c.unwrap-key.ensures c.pop.ensures.capacity c.self.invariant in
    omega (arith, within-before _ _ _ _ _ _ _ _ kept c.insert_reserved.ensures.was_vacant c.insert_reserved.ensures.updates)

pub invariant_of-self : goal.invariant_of-self
invariant_of-self c =
    let kept = IsKept-popped _ _ _ _ _ _ _ _ c.pop.ensures.items c.unwrap-key.ensures c.pop.ensures.capacity c.self.invariant in
    IsKept-added _ _ _ _ _ _ _ _ kept c.insert_reserved.ensures.was_vacant c.insert_reserved.ensures.updates c.insert_reserved.ensures.len c.insert_reserved.ensures.capacity

pub returns-clause-free : goal.returns-clause-free
returns-clause-free c =
    let kept = IsKept-popped _ _ _ _ _ _ _ _ c.pop.ensures.items c.unwrap-key.ensures c.pop.ensures.capacity c.self.invariant in
    rw (← c.self.view_is) (seen-at c.self.inside.slab c.self.inside.places.items c.unwrap-key.result ∙ ap (found c.self.inside.slab) (nowhere-before _ _ _ _ _ _ _ _ kept c.insert_reserved.ensures.was_vacant c.insert_reserved.ensures.updates))

pub returns-clause-within : goal.returns-clause-within
returns-clause-within c =
    let kept = IsKept-popped _ _ _ _ _ _ _ _ c.pop.ensures.items c.unwrap-key.ensures c.pop.ensures.capacity c.self.invariant in
    rw (← c.self.view_is) (omega (arith, length-map c.self.inside.places.items (found c.self.inside.slab), within-before _ _ _ _ _ _ _ _ kept c.insert_reserved.ensures.was_vacant c.insert_reserved.ensures.updates))

pub returns-clause-kept : goal.returns-clause-kept
returns-clause-kept c =
    let kept = IsKept-popped _ _ _ _ _ _ _ _ c.pop.ensures.items c.unwrap-key.ensures c.pop.ensures.capacity c.self.invariant in
    rw (← c.self.view_is) (seen-added _ _ _ _ _ _ _ _ kept c.insert_reserved.ensures.was_vacant c.insert_reserved.ensures.updates)
