use Rattle.std.proofs.Common.{◌≡◌, ◌∙◌, Some, ap, is_some, set, sym}
use Rattle.slab.proofs.SlabLemmas.{Updates-with_value}
use Rattle.boss_leases.specs.Leases.{found, place_of, seen, until_then}
use Rattle.boss_leases.proofs.Kept.{seen-extended, seen-at}
use Rattle.boss_leases.proofs.leases.Leases.extend.Goals as goal

pub returns : goal.returns
returns c =
    let slab = c.self.inside.slab in
    let places = c.self.inside.places.items in
    let lease = c.index_mut.result.now in
    let leads : place_of places c.args.key ≡ Some c.unwrap-place.result = ap (λ places. place_of places c.args.key) (sym c.deref.ensures.value) ∙ sym c.place_of.ensures ∙ c.unwrap-place.ensures in
    let before = seen-at slab places c.args.key ∙ ap (found slab) leads ∙ c.index_mut.ensures.value in
    let after = record lease { until = c.args.until } in
    let updates = Updates-with_value slab c.unwrap-place.result after (ap is_some c.index_mut.ensures.value) in
    rw (← c.self.view_is) (seen-extended slab _ places _ _ c.args.key _ c.self.invariant leads after updates ∙ ap (λ slot. set (seen slab places) c.args.key (until_then c.args.until slot)) (sym before))
