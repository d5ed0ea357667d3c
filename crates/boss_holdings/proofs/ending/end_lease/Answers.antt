use Rattle.std.proofs.Common.{◌≡◌, Some, None, get_or, arith}
use Rattle.boss_array.specs.declared.array.Entry.TheVariants as entry
use Rattle.boss_slots.proofs.Kept.{empty-slot}
use Rattle.boss_slots.proofs.Turns.{by-start}
use Rattle.boss_holdings.proofs.ending.end_lease.Goals as goal

pub set-requires : goal.set-requires
set-requires c =
    let l = c.take_lease-lease.result in
    let there : get_or c.args.tables.now.leases c.args.key None ≡ Some l = c.take_lease-lease.ensures.lease in
    let stood = c.requires.kept.held c.args.key l there in
    let at = c.requires.kept.within l.point l.priority (entry.Lease c.args.key) stood in
    let a = at.0 in
    let flags = c.requires.flags in omega arith

pub start_reversion-requires-clause-point : goal.start_reversion-requires-clause-point
start_reversion-requires-clause-point c =
    let l = c.take_lease-lease.result in
    let there : get_or c.args.tables.now.leases c.args.key None ≡ Some l = c.take_lease-lease.ensures.lease in
    let stood = c.requires.kept.held c.args.key l there in
    let at = c.requires.kept.within l.point l.priority (entry.Lease c.args.key) stood in
    let a = at.0 in
    let points = c.take_lease-lease.ensures.moved.points in
    rw c.reversion_of.ensures (omega arith)

pub start_reversion-requires-clause-level : goal.start_reversion-requires-clause-level
start_reversion-requires-clause-level c =
    let l = c.take_lease-lease.result in
    let there : get_or c.args.tables.now.leases c.args.key None ≡ Some l = c.take_lease-lease.ensures.lease in
    let stood = c.requires.kept.held c.args.key l there in
    let at = c.requires.kept.within l.point l.priority (entry.Lease c.args.key) stood in
    let a = at.0 in
    rw c.reversion_of.ensures (at.1, at.2)

pub start_reversion-requires-clause-empty : goal.start_reversion-requires-clause-empty
start_reversion-requires-clause-empty c =
    let moved = c.take_lease-lease.ensures.moved in
    rw c.reversion_of.ensures (empty-slot c.take_lease-lease.new.tables c.take_lease-lease.result.point c.take_lease-lease.result.priority c.take_lease-lease.ensures.kept moved.lease moved.pending)

pub returns-clause-timed : goal.returns-clause-timed
returns-clause-timed c timed =
    c.start_reversion.ensures.timed c.args.n (omega arith) (rw c.reversion_of.ensures (by-start c.args.n c.take_lease-lease.result.revert)) (c.take_lease-lease.ensures.timed c.args.n timed)
