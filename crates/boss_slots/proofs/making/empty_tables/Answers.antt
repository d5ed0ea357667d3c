use Rattle.std.proofs.Common.{◌≡◌, ◌∙◌, ◌*◌, None, replicate, refl, ap, arith}
use Rattle.boss_slots.specs.declared.tables.Tables.{Tables}
use Rattle.boss_slots.proofs.Looked.{empty-kept, empty-lease, empty-pending, empty-timed}
use Rattle.boss_slots.proofs.making.empty_tables.Goals as goal

pub returns-clause-kept : goal.returns-clause-kept
returns-clause-kept c =
    let points = c.args.points in
    let few = c.requires in
    let slots : points * 16 ≡ 16 * points = omega arith in
    let twice : 2 * (points * 16) ≡ 32 * points = omega arith in
    let leases : c.in_ok-leases.leases ≡ replicate (16 * points) None = c.in_ok-leases.ensures ∙ ap (λ n. replicate n None) slots in
    let pending : c.in_ok-pending.pending.items ≡ replicate (16 * points) None = c.in_ok-pending.ensures ∙ ap (λ n. replicate n None) slots in
    let timers : c.in_ok-timers.timers ≡ replicate (32 * points) None = c.in_ok-timers.ensures ∙ ap (λ n. replicate n None) twice in
    let after : Tables = record { arrays = c.in_ok-arrays.arrays; leases = c.in_ok-leases.leases; pending = c.in_ok-pending.pending; timers = c.in_ok-timers.timers; live = 0; under_way = 0 } in
    empty-kept after points few c.in_ok-arrays.ensures leases pending timers refl refl

pub returns-clause-timed : goal.returns-clause-timed
returns-clause-timed c =
    let points = c.args.points in
    let few = c.requires in
    let slots : points * 16 ≡ 16 * points = omega arith in
    let twice : 2 * (points * 16) ≡ 32 * points = omega arith in
    let leases : c.in_ok-leases.leases ≡ replicate (16 * points) None = c.in_ok-leases.ensures ∙ ap (λ n. replicate n None) slots in
    let pending : c.in_ok-pending.pending.items ≡ replicate (16 * points) None = c.in_ok-pending.ensures ∙ ap (λ n. replicate n None) slots in
    let timers : c.in_ok-timers.timers ≡ replicate (32 * points) None = c.in_ok-timers.ensures ∙ ap (λ n. replicate n None) twice in
    let after : Tables = record { arrays = c.in_ok-arrays.arrays; leases = c.in_ok-leases.leases; pending = c.in_ok-pending.pending; timers = c.in_ok-timers.timers; live = 0; under_way = 0 } in
    empty-timed after points few c.in_ok-arrays.ensures leases pending timers refl refl

pub returns-clause-leases : goal.returns-clause-leases
returns-clause-leases c =
    let points = c.args.points in
    let few = c.requires in
    let slots : points * 16 ≡ 16 * points = omega arith in
    let twice : 2 * (points * 16) ≡ 32 * points = omega arith in
    let leases : c.in_ok-leases.leases ≡ replicate (16 * points) None = c.in_ok-leases.ensures ∙ ap (λ n. replicate n None) slots in
    let pending : c.in_ok-pending.pending.items ≡ replicate (16 * points) None = c.in_ok-pending.ensures ∙ ap (λ n. replicate n None) slots in
    let timers : c.in_ok-timers.timers ≡ replicate (32 * points) None = c.in_ok-timers.ensures ∙ ap (λ n. replicate n None) twice in
    let after : Tables = record { arrays = c.in_ok-arrays.arrays; leases = c.in_ok-leases.leases; pending = c.in_ok-pending.pending; timers = c.in_ok-timers.timers; live = 0; under_way = 0 } in
    empty-lease after points few c.in_ok-arrays.ensures leases pending timers refl refl

pub returns-clause-pending : goal.returns-clause-pending
returns-clause-pending c =
    let points = c.args.points in
    let few = c.requires in
    let slots : points * 16 ≡ 16 * points = omega arith in
    let twice : 2 * (points * 16) ≡ 32 * points = omega arith in
    let leases : c.in_ok-leases.leases ≡ replicate (16 * points) None = c.in_ok-leases.ensures ∙ ap (λ n. replicate n None) slots in
    let pending : c.in_ok-pending.pending.items ≡ replicate (16 * points) None = c.in_ok-pending.ensures ∙ ap (λ n. replicate n None) slots in
    let timers : c.in_ok-timers.timers ≡ replicate (32 * points) None = c.in_ok-timers.ensures ∙ ap (λ n. replicate n None) twice in
    let after : Tables = record { arrays = c.in_ok-arrays.arrays; leases = c.in_ok-leases.leases; pending = c.in_ok-pending.pending; timers = c.in_ok-timers.timers; live = 0; under_way = 0 } in
    empty-pending after points few c.in_ok-arrays.ensures leases pending timers refl refl
