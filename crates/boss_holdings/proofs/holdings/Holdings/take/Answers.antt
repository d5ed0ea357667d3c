use Rattle.std.proofs.Common.{◌≡◌, ◌∙◌, ◌≤◌, false, true, [], None, get_or, vec_capacity, ap, subst}
use Rattle.std.specs.Option.{option_or}
use Rattle.std.specs.List.{AllByRecursion}
use Rattle.boss_slots.specs.Ending.{IsClearing}
use Rattle.boss_slots.specs.Tables.{lease_at, pending_at}
use Rattle.boss_slots.proofs.Kept.{timed-later}
use Rattle.boss_holdings.proofs.Shown.{clearing-first, none-new, shown-same}
use Rattle.boss_holdings.proofs.Taken.{taken-leases, taken-pending, taken-told}
use Rattle.boss_holdings.proofs.holdings.Holdings.take.Goals as goal

pub clear_slots-requires-clause-clearing : goal.clear_slots-requires-clause-clearing
clear_slots-requires-clause-clearing c =
    let t = c.self.inside.tables in
    let moment : c.self.inside.moment ≤ c.args.n = rw (← c.self.view_is) at c.requires.moment in
    rw (c.clear.ensures.items, c.clear.ensures.capacity) (clearing-first c.deref.result.now c.args.by c.args.n t (vec_capacity c.args.told.now) c.self.inside.touched c.self.invariant.kept (timed-later c.self.inside.moment c.args.n t moment c.self.invariant.timed) c.self.invariant.flags
    (rw (← c.self.view_is) at c.requires.room))

pub clear_slots-requires-clause-slots : goal.clear_slots-requires-clause-slots
clear_slots-requires-clause-slots c = rw (c.deref.ensures.value) (rw (← c.self.view_is) at c.requires.slots)

pub put_leases-requires-clause-slots : goal.put_leases-requires-clause-slots
put_leases-requires-clause-slots c = rw c.clear_slots.ensures.clearing.ending.points (rw (← c.self.view_is) at c.requires.slots)

pub returns-clause-leases : goal.returns-clause-leases
returns-clause-leases c =
    let t = c.self.inside.tables in
    let kept = c.self.invariant.kept in
    let items = c.deref.ensures.value in
    let empty = c.clear.ensures.items in
    let o = subst (λ new. IsClearing new c.args.by c.args.n t c.clear_slots.new.tables [] c.clear_slots.new.told.items (vec_capacity c.clear_slots.new.told) c.self.inside.touched c.clear_slots.new.touched) items
    (subst (λ said. IsClearing c.deref.result.now c.args.by c.args.n t c.clear_slots.new.tables said c.clear_slots.new.told.items (vec_capacity c.clear_slots.new.told) c.self.inside.touched c.clear_slots.new.touched) empty c.clear_slots.ensures.clearing) in
    let clear = subst (AllByRecursion (λ lease. (lease_at c.clear_slots.new.tables lease.point lease.priority ≡ None) × (pending_at c.clear_slots.new.tables lease.point lease.priority ≡ None))) items c.clear_slots.ensures.clear in
    let slots = rw (← c.self.view_is) at c.requires.slots in
    rw (← c.self.view_is) (taken-leases c.args.new.items c.args.by c.args.n t c.clear_slots.new.tables c.put_leases.new.tables c.clear_slots.new.told.items (vec_capacity c.clear_slots.new.told) c.self.inside.touched c.clear_slots.new.touched kept o c.put_leases.ensures.kept clear c.requires.apart slots c.put_leases.ensures.leases c.put_leases.ensures.pending c.put_leases.ensures.points)

pub returns-clause-pending : goal.returns-clause-pending
returns-clause-pending c =
    let t = c.self.inside.tables in
    let kept = c.self.invariant.kept in
    let items = c.deref.ensures.value in
    let empty = c.clear.ensures.items in
    let o = subst (λ new. IsClearing new c.args.by c.args.n t c.clear_slots.new.tables [] c.clear_slots.new.told.items (vec_capacity c.clear_slots.new.told) c.self.inside.touched c.clear_slots.new.touched) items
    (subst (λ said. IsClearing c.deref.result.now c.args.by c.args.n t c.clear_slots.new.tables said c.clear_slots.new.told.items (vec_capacity c.clear_slots.new.told) c.self.inside.touched c.clear_slots.new.touched) empty c.clear_slots.ensures.clearing) in
    let clear = subst (AllByRecursion (λ lease. (lease_at c.clear_slots.new.tables lease.point lease.priority ≡ None) × (pending_at c.clear_slots.new.tables lease.point lease.priority ≡ None))) items c.clear_slots.ensures.clear in
    let slots = rw (← c.self.view_is) at c.requires.slots in
    rw (← c.self.view_is) (taken-pending c.args.new.items c.args.by c.args.n t c.clear_slots.new.tables c.put_leases.new.tables c.clear_slots.new.told.items (vec_capacity c.clear_slots.new.told) c.self.inside.touched c.clear_slots.new.touched kept o c.put_leases.ensures.kept clear c.requires.apart slots c.put_leases.ensures.leases c.put_leases.ensures.pending c.put_leases.ensures.points)

pub returns-clause-told : goal.returns-clause-told
returns-clause-told c =
    let t = c.self.inside.tables in
    let kept = c.self.invariant.kept in
    let items = c.deref.ensures.value in
    let empty = c.clear.ensures.items in
    let o = subst (λ new. IsClearing new c.args.by c.args.n t c.clear_slots.new.tables [] c.clear_slots.new.told.items (vec_capacity c.clear_slots.new.told) c.self.inside.touched c.clear_slots.new.touched) items
    (subst (λ said. IsClearing c.deref.result.now c.args.by c.args.n t c.clear_slots.new.tables said c.clear_slots.new.told.items (vec_capacity c.clear_slots.new.told) c.self.inside.touched c.clear_slots.new.touched) empty c.clear_slots.ensures.clearing) in
    let clear = subst (AllByRecursion (λ lease. (lease_at c.clear_slots.new.tables lease.point lease.priority ≡ None) × (pending_at c.clear_slots.new.tables lease.point lease.priority ≡ None))) items c.clear_slots.ensures.clear in
    let slots = rw (← c.self.view_is) at c.requires.slots in
    rw (← c.self.view_is) (taken-told c.args.new.items c.args.by c.args.n t c.clear_slots.new.tables c.put_leases.new.tables c.clear_slots.new.told.items (vec_capacity c.clear_slots.new.told) c.self.inside.touched c.clear_slots.new.touched kept o c.put_leases.ensures.kept clear c.requires.apart slots c.put_leases.ensures.leases c.put_leases.ensures.pending c.put_leases.ensures.points)

pub returns-clause-untouched : goal.returns-clause-untouched
returns-clause-untouched c default p m unset =
    let t = c.self.inside.tables in
    let kept = c.self.invariant.kept in
    let items = c.deref.ensures.value in
    let empty = c.clear.ensures.items in
    let o = subst (λ new. IsClearing new c.args.by c.args.n t c.clear_slots.new.tables [] c.clear_slots.new.told.items (vec_capacity c.clear_slots.new.told) c.self.inside.touched c.clear_slots.new.touched) items
    (subst (λ said. IsClearing c.deref.result.now c.args.by c.args.n t c.clear_slots.new.tables said c.clear_slots.new.told.items (vec_capacity c.clear_slots.new.told) c.self.inside.touched c.clear_slots.new.touched) empty c.clear_slots.ensures.clearing) in
    let clear = subst (AllByRecursion (λ lease. (lease_at c.clear_slots.new.tables lease.point lease.priority ≡ None) × (pending_at c.clear_slots.new.tables lease.point lease.priority ≡ None))) items c.clear_slots.ensures.clear in
    let slots = rw (← c.self.view_is) at c.requires.slots in
    let marked = subst (AllByRecursion (λ lease. get_or c.clear_slots.new.touched lease.point false ≡ true)) items c.clear_slots.ensures.marked in
    rw (← c.self.view_is) (shown-same t c.put_leases.new.tables default p m kept c.put_leases.ensures.kept (c.put_leases.ensures.points ∙ o.ending.points)
    (λ q. (
      c.put_leases.ensures.leases p q ∙ ap (λ f. option_or f (lease_at c.clear_slots.new.tables p q)) (none-new c.args.new.items c.clear_slots.new.touched p q marked unset) ∙ (o.ending.untouched p unset q).0,
      c.put_leases.ensures.pending p q ∙ (o.ending.untouched p unset q).1,
    )))
