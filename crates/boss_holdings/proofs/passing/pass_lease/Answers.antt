use Rattle.std.proofs.Common.{◌≡◌, ◌≢◌, ◌∙◌, ◌+◌, ◌*◌, ◌<◌, ◌≤◌, Some, None, length, get_or, set, count_by, vec_capacity, refl, ap, arith}
use Rattle.std.proofs.lemmas.List.{get_or-set_other}
use Rattle.boss_slots.specs.Ending.{is_due}
use Rattle.boss_slots.specs.Tables.{number}
use Rattle.law_due.specs.Due.{last_of_lease}
use Rattle.boss_slots.proofs.Kept.{empty-slot, number-apart, timed-later, within-of}
use Rattle.boss_slots.proofs.Turns.{of_lease-by, of_lease-later, of_lease-reached}
use Rattle.boss_holdings.proofs.Passed.{fewer-due, lease-endable, lease-room, passable-lease, passing-lease, slot-in}
use Rattle.boss_holdings.proofs.passing.pass_lease.Goals as goal

pub tell_lease-requires-clause-lease : goal.tell_lease-requires-clause-lease
tell_lease-requires-clause-lease c =
    let l = c.take_lease-lease.result in
    let there : get_or c.args.tables.now.leases c.args.key None ≡ Some l = c.take_lease-lease.ensures.lease in
    let ended : l.until ≤ c.args.n = c.requires.ended l there in
    lease-endable c.args.n c.args.last c.args.tables.now c.take_lease-lease.new.tables c.take_lease-lease.new.tables c.args.key c.take_lease-lease.result c.args.told.now.items (vec_capacity c.args.told.now) c.args.touched.now c.requires.passable there ended c.take_lease-lease.ensures.moved

pub tell_lease-requires-clause-room : goal.tell_lease-requires-clause-room
tell_lease-requires-clause-room c =
    let l = c.take_lease-lease.result in
    let there : get_or c.args.tables.now.leases c.args.key None ≡ Some l = c.take_lease-lease.ensures.lease in
    let ended : l.until ≤ c.args.n = c.requires.ended l there in
    lease-room c.args.n c.args.last c.args.tables.now c.take_lease-lease.new.tables c.take_lease-lease.new.tables c.args.key c.take_lease-lease.result c.args.told.now.items (vec_capacity c.args.told.now) c.args.touched.now c.requires.passable there ended c.take_lease-lease.ensures.moved

pub last_of_lease-reached-requires : goal.last_of_lease-reached-requires
last_of_lease-reached-requires c =
    let l = c.take_lease-lease.result in
    let there : get_or c.args.tables.now.leases c.args.key None ≡ Some l = c.take_lease-lease.ensures.lease in
    let ended : l.until ≤ c.args.n = c.requires.ended l there in
    lease-endable c.args.n c.args.last c.args.tables.now c.take_lease-lease.new.tables c.take_lease-lease.new.tables c.args.key c.take_lease-lease.result c.args.told.now.items (vec_capacity c.args.told.now) c.args.touched.now c.requires.passable there ended c.take_lease-lease.ensures.moved

pub set-requires : goal.set-requires
set-requires c =
    let l = c.take_lease-lease.result in
    let there : get_or c.args.tables.now.leases c.args.key None ≡ Some l = c.take_lease-lease.ensures.lease in
    let ended : l.until ≤ c.args.n = c.requires.ended l there in
    let at = slot-in c.args.n c.args.last c.args.tables.now c.take_lease-lease.new.tables c.take_lease-lease.new.tables c.args.key c.take_lease-lease.result c.args.told.now.items (vec_capacity c.args.told.now) c.args.touched.now c.requires.passable there ended c.take_lease-lease.ensures.moved in
    let a = at.0 in let flags = c.requires.passable.flags in omega arith

pub start_reversion-requires-clause-point : goal.start_reversion-requires-clause-point
start_reversion-requires-clause-point c =
    let l = c.take_lease-lease.result in
    let there : get_or c.args.tables.now.leases c.args.key None ≡ Some l = c.take_lease-lease.ensures.lease in
    let ended : l.until ≤ c.args.n = c.requires.ended l there in
    let at = slot-in c.args.n c.args.last c.args.tables.now c.take_lease-lease.new.tables c.take_lease-lease.new.tables c.args.key c.take_lease-lease.result c.args.told.now.items (vec_capacity c.args.told.now) c.args.touched.now c.requires.passable there ended c.take_lease-lease.ensures.moved in
    let points = c.take_lease-lease.ensures.moved.points in
    let a = at.0 in
    rw c.reversion_of.ensures (omega arith)

pub start_reversion-requires-clause-level : goal.start_reversion-requires-clause-level
start_reversion-requires-clause-level c =
    let l = c.take_lease-lease.result in
    let there : get_or c.args.tables.now.leases c.args.key None ≡ Some l = c.take_lease-lease.ensures.lease in
    let ended : l.until ≤ c.args.n = c.requires.ended l there in
    let at = slot-in c.args.n c.args.last c.args.tables.now c.take_lease-lease.new.tables c.take_lease-lease.new.tables c.args.key c.take_lease-lease.result c.args.told.now.items (vec_capacity c.args.told.now) c.args.touched.now c.requires.passable there ended c.take_lease-lease.ensures.moved in
    rw c.reversion_of.ensures (at.1, at.2)

pub start_reversion-requires-clause-empty : goal.start_reversion-requires-clause-empty
start_reversion-requires-clause-empty c =
    let moved = c.take_lease-lease.ensures.moved in
    rw c.reversion_of.ensures (empty-slot c.take_lease-lease.new.tables c.take_lease-lease.result.point c.take_lease-lease.result.priority c.take_lease-lease.ensures.kept moved.lease moved.pending)

pub start_reversion-requires-clause-playable : goal.start_reversion-requires-clause-playable
start_reversion-requires-clause-playable c =
    let l = c.take_lease-lease.result in
    let there : get_or c.args.tables.now.leases c.args.key None ≡ Some l = c.take_lease-lease.ensures.lease in
    let ended : l.until ≤ c.args.n = c.requires.ended l there in
    rw c.reversion_of.ensures (lease-endable c.args.n c.args.last c.args.tables.now c.take_lease-lease.new.tables c.take_lease-lease.new.tables c.args.key c.take_lease-lease.result c.args.told.now.items (vec_capacity c.args.told.now) c.args.touched.now c.requires.passable there ended c.take_lease-lease.ensures.moved)

pub start_reversion-requires-clause-started : goal.start_reversion-requires-clause-started
start_reversion-requires-clause-started c =
    let l = c.take_lease-lease.result in
    let there : get_or c.args.tables.now.leases c.args.key None ≡ Some l = c.take_lease-lease.ensures.lease in
    let ended : l.until ≤ c.args.n = c.requires.ended l there in
    rw c.reversion_of.ensures ended

pub returns-clause-passable : goal.returns-clause-passable
returns-clause-passable c =
    let l = c.take_lease-lease.result in
    let there : get_or c.args.tables.now.leases c.args.key None ≡ Some l = c.take_lease-lease.ensures.lease in
    let ended : l.until ≤ c.args.n = c.requires.ended l there in
    let timed1 = timed-later c.args.last (last_of_lease c.args.n c.args.last l) c.take_lease-lease.new.tables (of_lease-later c.args.n c.args.last l) (c.take_lease-lease.ensures.timed c.args.last c.requires.passable.timed) in
    let by = of_lease-by c.args.n c.args.last l ended in
    let up = of_lease-reached c.args.n c.args.last l c.requires.passable.reached in
    let timed2 = c.start_reversion.ensures.timed (last_of_lease c.args.n c.args.last l) up (rw c.reversion_of.ensures by.1) timed1 in
    rw (c.last_of_lease-reached.ensures, c.tell_lease.ensures.told, c.tell_lease.ensures.room, c.set.ensures) (passable-lease c.args.n c.args.last c.args.tables.now c.take_lease-lease.new.tables c.start_reversion.new.tables c.args.key c.take_lease-lease.result c.args.told.now.items (vec_capacity c.args.told.now) c.args.touched.now c.requires.passable there ended c.take_lease-lease.ensures.moved c.start_reversion.ensures.kept timed2 (rw c.reversion_of.ensures at c.start_reversion.ensures.moved))

pub returns-clause-passing : goal.returns-clause-passing
returns-clause-passing c began first said_before marks_before e =
    let l = c.take_lease-lease.result in
    let there : get_or c.args.tables.now.leases c.args.key None ≡ Some l = c.take_lease-lease.ensures.lease in
    let ended : l.until ≤ c.args.n = c.requires.ended l there in
    let timed1 = timed-later c.args.last (last_of_lease c.args.n c.args.last l) c.take_lease-lease.new.tables (of_lease-later c.args.n c.args.last l) (c.take_lease-lease.ensures.timed c.args.last c.requires.passable.timed) in
    let by = of_lease-by c.args.n c.args.last l ended in
    let up = of_lease-reached c.args.n c.args.last l c.requires.passable.reached in
    let timed2 = c.start_reversion.ensures.timed (last_of_lease c.args.n c.args.last l) up (rw c.reversion_of.ensures by.1) timed1 in
    let at = slot-in c.args.n c.args.last c.args.tables.now c.take_lease-lease.new.tables c.start_reversion.new.tables c.args.key c.take_lease-lease.result c.args.told.now.items (vec_capacity c.args.told.now) c.args.touched.now c.requires.passable there ended c.take_lease-lease.ensures.moved in
    let others2 = rw c.reversion_of.ensures at c.start_reversion.ensures.others in
    rw (c.last_of_lease-reached.ensures, c.tell_lease.ensures.told, c.set.ensures) (passing-lease c.args.n c.args.last c.args.tables.now c.take_lease-lease.new.tables c.start_reversion.new.tables c.args.key c.take_lease-lease.result c.args.told.now.items (vec_capacity c.args.told.now) c.args.touched.now c.requires.passable there ended c.take_lease-lease.ensures.moved c.start_reversion.ensures.kept timed2 (rw c.reversion_of.ensures at c.start_reversion.ensures.moved) began first said_before marks_before e
    (λ a b differs low high.
    let points1 = c.take_lease-lease.ensures.moved.points in
    let points2 = c.start_reversion.ensures.moved.points in
    let keys = c.requires.passable.kept.keys in
    let key-in = within-of c.args.tables.now.leases c.args.key l there in
    let away : 16 * length c.take_lease-lease.new.tables.arrays.items + number a b ≢ 16 * length c.take_lease-lease.new.tables.arrays.items + number l.point l.priority =
    λ same. differs (number-apart l.point l.priority a b at.1 at.2 low high (omega arith)).0 in
    let past : 16 * length c.args.tables.now.arrays.items + number a b ≢ c.args.key = λ same. omega arith in
    ap (λ k. get_or c.start_reversion.new.tables.timers (16 * k + number a b) None) points2 ∙ others2 (16 * length c.take_lease-lease.new.tables.arrays.items + number a b) away
    ∙ ap (λ k. get_or c.take_lease-lease.new.tables.timers (16 * k + number a b) None) points1 ∙ ap (λ ts. get_or ts (16 * length c.args.tables.now.arrays.items + number a b) None) c.take_lease-lease.ensures.timers
    ∙ get_or-set_other c.args.tables.now.timers c.args.key (16 * length c.args.tables.now.arrays.items + number a b) None None past))

pub returns-clause-fewer : goal.returns-clause-fewer
returns-clause-fewer c =
    let more = c.start_reversion.ensures.fewer in
    let less : count_by (is_due c.args.n) (set c.args.tables.now.timers c.args.key None) < count_by (is_due c.args.n) c.args.tables.now.timers = fewer-due c.args.n c.args.key c.args.tables.now.timers None c.requires.due refl in
    let same : count_by (is_due c.args.n) c.take_lease-lease.new.tables.timers ≡ count_by (is_due c.args.n) (set c.args.tables.now.timers c.args.key None) = ap (count_by (is_due c.args.n)) c.take_lease-lease.ensures.timers in
    omega arith
