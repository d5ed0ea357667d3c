use Rattle.std.proofs.Common.{◌≡◌, ◌∙◌, true, Some, None, get_or, vec_capacity, ap, sym, arith}
use Rattle.std.specs.Option.{option_copied}
use Rattle.std.proofs.lemmas.Bool.Decides.{nat_tests}
use Rattle.boss_model.specs.Ends.{is_owned_by}
use Rattle.boss_slots.proofs.Kept.{lease-of_key}
use Rattle.boss_holdings.proofs.Orderly.{orderly-more, orderly-room}
use Rattle.boss_holdings.proofs.ending.end_if_owned.Goals as goal

pub end_lease-requires-clause-endable : goal.end_lease-requires-clause-endable
end_lease-requires-clause-endable c lease is =
    let o = c.requires.orderly.3 in o.endable lease.point lease.priority lease (lease-of_key c.args.tables.now c.args.key lease o.kept is).0

pub end_lease-requires-clause-room : goal.end_lease-requires-clause-room
end_lease-requires-clause-room c =
    let o = c.requires.orderly.3 in
    let there : get_or c.args.tables.now.leases c.args.key None ≡ Some c.in-Some.lease.now = sym c.get.ensures ∙ ap option_copied c.in-Some.is in
    let same = c.if-eq.ensures in
    let is = c.if-eq.true in
    let meant : is_owned_by c.args.owner c.in-Some.lease.now ≡ true = grind (arith, nat_tests) in
    orderly-room (is_owned_by c.args.owner) c.args.cause.now c.args.n c.requires.orderly.0 c.args.tables.now c.requires.orderly.1 c.args.told.now.items (vec_capacity c.args.told.now) c.requires.orderly.2 c.args.touched.now
    c.in-Some.lease.now.point c.in-Some.lease.now.priority c.in-Some.lease.now o (lease-of_key c.args.tables.now c.args.key c.in-Some.lease.now o.kept there).0 meant

pub returns-then-eq-clause-orderly : goal.returns-then-eq-clause-orderly
returns-then-eq-clause-orderly c first said_before marks_before o =
    let there : get_or c.args.tables.now.leases c.args.key None ≡ Some c.in-Some.lease.now = sym c.get.ensures ∙ ap option_copied c.in-Some.is in
    let same = c.if-eq.ensures in
    let is = c.if-eq.true in
    let meant : is_owned_by c.args.owner c.in-Some.lease.now ≡ true = grind (arith, nat_tests) in
    rw (c.end_lease.ensures.told c.in-Some.lease.now there, c.end_lease.ensures.touched c.in-Some.lease.now there, c.end_lease.ensures.room)
    (orderly-more (is_owned_by c.args.owner) c.args.cause.now c.args.n first c.args.tables.now c.end_lease.new.tables said_before c.args.told.now.items (vec_capacity c.args.told.now) marks_before c.args.touched.now c.args.key c.in-Some.lease.now o there meant
    (c.end_lease.ensures.moved c.in-Some.lease.now there) c.end_lease.ensures.kept (c.end_lease.ensures.timed o.timed))
