use Rattle.std.proofs.Common.{◌≡◌, ◌∙◌, ◌<◌, ◌≤◌, None, false, length, replicate, sym, ap, subst, arith}
use Rattle.std.specs.List.{find, AllByRecursion}
use Rattle.std.specs.Option.{option_or}
use Rattle.boss_model.specs.declared.state.Lease.{Lease}
use Rattle.boss_model.specs.declared.state.Pending.{Pending}
use Rattle.law_time.proofs.Filters.{each-always}
use Rattle.law_time.proofs.Orders.{each-map}
use Rattle.boss_holdings.specs.Held.{is_at}
use Rattle.boss_holdings.specs.Putting.{in_place}
use Rattle.boss_slots.specs.Slots.{all}
use Rattle.boss_slots.specs.Tables.{lease_at, pending_at}
use Rattle.boss_slots.proofs.Kept.{timed-later}
use Rattle.boss_holdings.proofs.Placed.{leases-apart, pending-apart, alone, or-none, leases-back, pending-back}
use Rattle.boss_holdings.proofs.holdings.Holdings.put_back.Goals as goal

pub put_leases-requires-clause-apart : goal.put_leases-requires-clause-apart
put_leases-requires-clause-apart c = leases-apart c.args.leases.items c.requires.lease_slots

pub put_leases-requires-clause-slots : goal.put_leases-requires-clause-slots
put_leases-requires-clause-slots c = subst (λ points. AllByRecursion (λ (l : Lease). (l.point < points) × (1 ≤ l.priority) × (l.priority ≤ 16)) c.args.leases.items) (sym c.in_ok-tables.ensures.points) c.requires.leases

pub put_leases-requires-clause-clear : goal.put_leases-requires-clause-clear
put_leases-requires-clause-clear c = each-always
    (λ (l : Lease). (lease_at c.in_ok-tables.tables l.point l.priority ≡ None) × (pending_at c.in_ok-tables.tables l.point l.priority ≡ None))
    (λ l. (c.in_ok-tables.ensures.leases l.point l.priority, c.in_ok-tables.ensures.pending l.point l.priority)) c.args.leases.items

pub put_reversions-requires-clause-timed : goal.put_reversions-requires-clause-timed
put_reversions-requires-clause-timed c = timed-later 0 c.args.now c.put_leases.new.tables (omega arith) (c.put_leases.ensures.timed 0 c.in_ok-tables.ensures.timed)

pub put_reversions-requires-clause-apart : goal.put_reversions-requires-clause-apart
put_reversions-requires-clause-apart c = pending-apart c.args.pending.items c.requires.pending_slots

pub put_reversions-requires-clause-slots : goal.put_reversions-requires-clause-slots
put_reversions-requires-clause-slots c =
    subst (λ points. AllByRecursion (λ (r : Pending). (r.point < points) × (1 ≤ r.priority) × (r.priority ≤ 16)) c.args.pending.items)
    (sym (c.put_leases.ensures.points ∙ c.in_ok-tables.ensures.points)) c.requires.pending

pub put_reversions-requires-clause-clear : goal.put_reversions-requires-clause-clear
put_reversions-requires-clause-clear c =
    let t = c.in_ok-tables.tables in
    each-map (λ (r : Pending). find (is_at r.point r.priority) c.args.leases.items ≡ None)
    (λ (r : Pending). (lease_at c.put_leases.new.tables r.point r.priority ≡ None) × (pending_at c.put_leases.new.tables r.point r.priority ≡ None))
    (λ r none. (
      c.put_leases.ensures.leases r.point r.priority ∙ ap (λ found. option_or found (lease_at t r.point r.priority)) none ∙ c.in_ok-tables.ensures.leases r.point r.priority,
      c.put_leases.ensures.pending r.point r.priority ∙ c.in_ok-tables.ensures.pending r.point r.priority,
    )) c.args.pending.items (alone c.args.pending.items c.args.leases.items c.requires.slots)

pub returns : goal.returns
returns c =
    let t = c.in_ok-tables.tables in
    let after = c.put_reversions.new.tables in
    let points : length after.arrays.items ≡ c.args.points = c.put_reversions.ensures.points ∙ c.put_leases.ensures.points ∙ c.in_ok-tables.ensures.points in
    let leases : all (lease_at after) (length after.arrays.items) ≡ c.args.leases.items = ap (all (lease_at after)) points ∙ leases-back (lease_at after) c.args.points c.args.leases.items c.requires.lease_slots c.requires.leases
    (λ p q. c.put_reversions.ensures.leases p q ∙ c.put_leases.ensures.leases p q ∙ ap (option_or (find (is_at p q) c.args.leases.items)) (c.in_ok-tables.ensures.leases p q) ∙ or-none (find (is_at p q) c.args.leases.items)) in
    let pending : all (pending_at after) (length after.arrays.items) ≡ c.args.pending.items = ap (all (pending_at after)) points ∙ pending-back (pending_at after) c.args.points c.args.pending.items c.requires.pending_slots c.requires.pending
    (λ p q. c.put_reversions.ensures.pending p q ∙ ap (option_or (find (in_place p q) c.args.pending.items)) (c.put_leases.ensures.pending p q ∙ c.in_ok-tables.ensures.pending p q) ∙ or-none (find (in_place p q) c.args.pending.items)) in
    let touched : c.in_ok-touched.touched ≡ replicate c.args.points false = c.in_ok-touched.ensures in
    λ i. record { now = c.args.now; points = points i; leases = leases i; pending = pending i; touched = touched i }
