use Rattle.std.proofs.Common.{◌≡◌, ◌∙◌, Some, None, get_or, vec_capacity, inl, inr, refl, ap, sym}
use Rattle.boss_model.specs.declared.state.Lease.{Lease}
use Rattle.boss_slots.specs.Tables.{lease_at}
use Rattle.boss_slots.proofs.Kept.{lease-there, leased, one-or-other}
use Rattle.boss_holdings.proofs.Orderly.{orderly-more}
use Rattle.boss_holdings.proofs.ending.end_slot.Goals as goal

pub end_lease-requires-clause-live : goal.end_lease-requires-clause-live
end_lease-requires-clause-live c =
    let there : (l : Lease) → get_or c.args.tables.now.leases c.in-Some.key None ≡ Some l → lease_at c.args.tables.now c.args.point c.args.priority ≡ Some l = λ l is. lease-there c.args.tables.now c.args.point c.args.priority c.in-Some.key c.in-Some.ensures.some ∙ is in
    let found = leased c.args.point c.args.priority (get_or c.args.tables.now.leases c.in-Some.key None) (c.requires.kept.keyed c.args.point c.args.priority c.in-Some.key c.in-Some.ensures.some) in
    rw found.1 refl

pub end_lease-requires-clause-endable : goal.end_lease-requires-clause-endable
end_lease-requires-clause-endable c lease is =
    let there : (l : Lease) → get_or c.args.tables.now.leases c.in-Some.key None ≡ Some l → lease_at c.args.tables.now c.args.point c.args.priority ≡ Some l = λ l is. lease-there c.args.tables.now c.args.point c.args.priority c.in-Some.key c.in-Some.ensures.some ∙ is in
    let found = leased c.args.point c.args.priority (get_or c.args.tables.now.leases c.in-Some.key None) (c.requires.kept.keyed c.args.point c.args.priority c.in-Some.key c.in-Some.ensures.some) in
    c.requires.endable lease (there lease is)

pub end_lease-requires-clause-room : goal.end_lease-requires-clause-room
end_lease-requires-clause-room c =
    let there : (l : Lease) → get_or c.args.tables.now.leases c.in-Some.key None ≡ Some l → lease_at c.args.tables.now c.args.point c.args.priority ≡ Some l = λ l is. lease-there c.args.tables.now c.args.point c.args.priority c.in-Some.key c.in-Some.ensures.some ∙ is in
    let found = leased c.args.point c.args.priority (get_or c.args.tables.now.leases c.in-Some.key None) (c.requires.kept.keyed c.args.point c.args.priority c.in-Some.key c.in-Some.ensures.some) in
    c.requires.room found.0 (there found.0 found.1)

pub returns-in-Some-clause-orderly : goal.returns-in-Some-clause-orderly
returns-in-Some-clause-orderly c which first said_before marks_before meant o =
    let there : (l : Lease) → get_or c.args.tables.now.leases c.in-Some.key None ≡ Some l → lease_at c.args.tables.now c.args.point c.args.priority ≡ Some l = λ l is. lease-there c.args.tables.now c.args.point c.args.priority c.in-Some.key c.in-Some.ensures.some ∙ is in
    let found = leased c.args.point c.args.priority (get_or c.args.tables.now.leases c.in-Some.key None) (c.requires.kept.keyed c.args.point c.args.priority c.in-Some.key c.in-Some.ensures.some) in
    rw (c.end_lease.ensures.told found.0 found.1, c.end_lease.ensures.touched found.0 found.1, c.end_lease.ensures.room)
    (orderly-more which c.args.cause.now c.args.n first c.args.tables.now c.end_lease.new.tables said_before c.args.told.now.items (vec_capacity c.args.told.now) marks_before c.args.touched.now c.in-Some.key found.0 o found.1
    (meant found.0 (there found.0 found.1)) (c.end_lease.ensures.moved found.0 found.1) c.end_lease.ensures.kept (c.end_lease.ensures.timed o.timed))

pub returns-in-Some-clause-gone : goal.returns-in-Some-clause-gone
returns-in-Some-clause-gone c =
    let there : (l : Lease) → get_or c.args.tables.now.leases c.in-Some.key None ≡ Some l → lease_at c.args.tables.now c.args.point c.args.priority ≡ Some l = λ l is. lease-there c.args.tables.now c.args.point c.args.priority c.in-Some.key c.in-Some.ensures.some ∙ is in
    let found = leased c.args.point c.args.priority (get_or c.args.tables.now.leases c.in-Some.key None) (c.requires.kept.keyed c.args.point c.args.priority c.in-Some.key c.in-Some.ensures.some) in
    let moved = c.end_lease.ensures.moved found.0 found.1 in
    ap (λ a. lease_at c.end_lease.new.tables a c.args.priority) (sym found.2) ∙ ap (lease_at c.end_lease.new.tables found.0.point) (sym found.3) ∙ moved.lease

pub returns-in-Some-clause-none : goal.returns-in-Some-clause-none
returns-in-Some-clause-none c a b none =
    let there : (l : Lease) → get_or c.args.tables.now.leases c.in-Some.key None ≡ Some l → lease_at c.args.tables.now c.args.point c.args.priority ≡ Some l = λ l is. lease-there c.args.tables.now c.args.point c.args.priority c.in-Some.key c.in-Some.ensures.some ∙ is in
    let found = leased c.args.point c.args.priority (get_or c.args.tables.now.leases c.in-Some.key None) (c.requires.kept.keyed c.args.point c.args.priority c.in-Some.key c.in-Some.ensures.some) in
    let moved = c.end_lease.ensures.moved found.0 found.1 in
    elim (one-or-other found.0.point found.0.priority a b) [
      | inl (one, two) ↦ ap (λ x. lease_at c.end_lease.new.tables x b) one ∙ ap (lease_at c.end_lease.new.tables found.0.point) two ∙ moved.lease
      | inr differs ↦ (moved.others a b differs).0 ∙ none
    ]
