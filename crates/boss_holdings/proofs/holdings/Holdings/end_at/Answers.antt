use Rattle.std.proofs.Common.{◌+◌, ◌<◌, ◌≤◌, length, vec_capacity, arith}
use Rattle.boss_model.specs.declared.state.Lease.{Lease}
use Rattle.boss_model.specs.declared.state.Pending.{Pending}
use Rattle.boss_model.specs.Reversions.{end_of}
use Rattle.boss_holdings.specs.Held.{in_slots}
use Rattle.boss_slots.specs.Slots.{all}
use Rattle.boss_slots.specs.Tables.{lease_at}
use Rattle.boss_slots.proofs.Kept.{timed-later}
use Rattle.boss_holdings.proofs.Orderly.{orderly-first, orderly-leases, orderly-pending, orderly-told}
use Rattle.boss_holdings.proofs.Shown.{few-ended, lease-each, pending-each, shown-same}
use Rattle.boss_holdings.proofs.holdings.Holdings.end_at.Goals as goal

pub end_slots-requires-clause-orderly : goal.end_slots-requires-clause-orderly
end_slots-requires-clause-orderly c =
    let t = c.self.inside.tables in
    let kept = c.self.invariant.kept in
    let moment : c.self.inside.moment ≤ c.args.n = rw (← c.self.view_is) at c.requires.moment.0 in
    let few = few-ended (in_slots c.args.slots.now) c.args.cause.now c.args.n (all (lease_at t) (length t.arrays.items)) in
    let room : length c.args.told.now.items + length (all (lease_at t) (length t.arrays.items)) ≤ vec_capacity c.args.told.now = rw (← c.self.view_is) at c.requires.room in
    orderly-first (in_slots c.args.slots.now) c.args.cause.now c.args.n c.self.inside.moment t c.args.told.now.items (vec_capacity c.args.told.now) c.self.inside.touched kept (timed-later c.self.inside.moment c.args.n t moment c.self.invariant.timed) c.self.invariant.flags
    (rw (← c.self.view_is) at c.requires.leases) (rw (← c.self.view_is) at c.requires.running) (omega arith)

pub end_slots-requires-clause-slots : goal.end_slots-requires-clause-slots
end_slots-requires-clause-slots c = rw (← c.self.view_is) at c.requires.slots

pub returns-clause-leases : goal.returns-clause-leases
returns-clause-leases c =
    let t = c.self.inside.tables in
    let kept = c.self.invariant.kept in
    let o = c.end_slots.ensures.orderly in
    let runs = lease-each (λ (l : Lease). c.args.n < l.until) t kept (rw (← c.self.view_is) at c.requires.live) in
    let starts = pending-each (λ (r : Pending). r.start ≤ c.args.n) t kept (rw (← c.self.view_is) at c.requires.started) in
    let plays = pending-each (λ (r : Pending). c.args.n < end_of r) t kept (rw (← c.self.view_is) at c.requires.running) in
    rw (← c.self.view_is) (orderly-leases (in_slots c.args.slots.now) c.args.cause.now c.args.n t c.end_slots.new.tables c.args.told.now.items c.end_slots.new.told.items (vec_capacity c.end_slots.new.told) c.self.inside.touched c.end_slots.new.touched kept o c.end_slots.ensures.gone runs (λ p q r is. (starts p q r is, plays p q r is)))

pub returns-clause-pending : goal.returns-clause-pending
returns-clause-pending c =
    let t = c.self.inside.tables in
    let kept = c.self.invariant.kept in
    let o = c.end_slots.ensures.orderly in
    let runs = lease-each (λ (l : Lease). c.args.n < l.until) t kept (rw (← c.self.view_is) at c.requires.live) in
    let starts = pending-each (λ (r : Pending). r.start ≤ c.args.n) t kept (rw (← c.self.view_is) at c.requires.started) in
    let plays = pending-each (λ (r : Pending). c.args.n < end_of r) t kept (rw (← c.self.view_is) at c.requires.running) in
    rw (← c.self.view_is) (orderly-pending (in_slots c.args.slots.now) c.args.cause.now c.args.n t c.end_slots.new.tables c.args.told.now.items c.end_slots.new.told.items (vec_capacity c.end_slots.new.told) c.self.inside.touched c.end_slots.new.touched kept o c.end_slots.ensures.gone runs (λ p q r is. (starts p q r is, plays p q r is)))

pub returns-clause-told : goal.returns-clause-told
returns-clause-told c =
    let t = c.self.inside.tables in
    let kept = c.self.invariant.kept in
    let o = c.end_slots.ensures.orderly in
    let runs = lease-each (λ (l : Lease). c.args.n < l.until) t kept (rw (← c.self.view_is) at c.requires.live) in
    let starts = pending-each (λ (r : Pending). r.start ≤ c.args.n) t kept (rw (← c.self.view_is) at c.requires.started) in
    let plays = pending-each (λ (r : Pending). c.args.n < end_of r) t kept (rw (← c.self.view_is) at c.requires.running) in
    rw (← c.self.view_is) (orderly-told (in_slots c.args.slots.now) c.args.cause.now c.args.n t c.end_slots.new.tables c.args.told.now.items c.end_slots.new.told.items (vec_capacity c.end_slots.new.told) c.self.inside.touched c.end_slots.new.touched kept o c.end_slots.ensures.gone runs (λ p q r is. (starts p q r is, plays p q r is)))

pub returns-clause-untouched : goal.returns-clause-untouched
returns-clause-untouched c default p m unset =
    let o = c.end_slots.ensures.orderly in
    rw (← c.self.view_is) (shown-same c.self.inside.tables c.end_slots.new.tables default p m c.self.invariant.kept o.kept o.ending.points (o.ending.untouched p unset))
