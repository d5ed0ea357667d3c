use Rattle.std.proofs.Common.{◌≡◌, ◌∙◌, ◌+◌, ◌-◌, ◌*◌, None, length, set, refl, ap, arith}
use Rattle.boss_slots.specs.declared.tables.Tables.{Tables}
use Rattle.std.specs.Vec.{with_item}
use Rattle.boss_slots.specs.Tables.{number}
use Rattle.boss_slots.proofs.Kept.{some-under_way, kept-taken_pending, moved-taken_pending, timed-taken_pending}
use Rattle.boss_slots.proofs.tables.take_pending.Goals as goal

pub overflow_sub-tables : goal.overflow_sub-tables
overflow_sub-tables c =
    let after : Tables = record { arrays = c.clear_entry.new.arrays; leases = c.args.tables.now.leases; pending = with_item c.args.tables.now.pending c.number-key.result None; timers = c.remove_timer.new.timers; live = c.args.tables.now.live; under_way = c.args.tables.now.under_way - 1 } in
    let is = c.number-key.ensures in
    let arrays = c.clear_entry.ensures in
    let pending : set c.args.tables.now.pending.items c.number-key.result None ≡ set c.args.tables.now.pending.items (number c.args.point c.args.priority) None = ap (λ n. set c.args.tables.now.pending.items n None) is in
    let place : c.keys.result + c.number-key.result ≡ 16 * length c.args.tables.now.arrays.items + number c.args.point c.args.priority = ap (λ n. n + c.number-key.result) (c.keys.ensures ∙ c.requires.kept.keys) ∙ ap (λ n. 16 * length c.args.tables.now.arrays.items + n) is in
    let timers : c.remove_timer.new.timers ≡ set c.args.tables.now.timers (16 * length c.args.tables.now.arrays.items + number c.args.point c.args.priority) None = c.remove_timer.ensures ∙ ap (λ n. set c.args.tables.now.timers n None) place in
    let some = some-under_way c.args.tables.now after
    c.args.point c.args.priority c.requires.kept c.requires.there refl arrays pending timers in
    omega arith

pub returns-clause-kept : goal.returns-clause-kept
returns-clause-kept c =
    let after : Tables = record { arrays = c.clear_entry.new.arrays; leases = c.args.tables.now.leases; pending = with_item c.args.tables.now.pending c.number-key.result None; timers = c.remove_timer.new.timers; live = c.args.tables.now.live; under_way = c.args.tables.now.under_way - 1 } in
    let is = c.number-key.ensures in
    let arrays = c.clear_entry.ensures in
    let pending : set c.args.tables.now.pending.items c.number-key.result None ≡ set c.args.tables.now.pending.items (number c.args.point c.args.priority) None = ap (λ n. set c.args.tables.now.pending.items n None) is in
    let place : c.keys.result + c.number-key.result ≡ 16 * length c.args.tables.now.arrays.items + number c.args.point c.args.priority = ap (λ n. n + c.number-key.result) (c.keys.ensures ∙ c.requires.kept.keys) ∙ ap (λ n. 16 * length c.args.tables.now.arrays.items + n) is in
    let timers : c.remove_timer.new.timers ≡ set c.args.tables.now.timers (16 * length c.args.tables.now.arrays.items + number c.args.point c.args.priority) None = c.remove_timer.ensures ∙ ap (λ n. set c.args.tables.now.timers n None) place in
    let some = some-under_way c.args.tables.now after
    c.args.point c.args.priority c.requires.kept c.requires.there refl arrays pending timers in
    kept-taken_pending c.args.tables.now after c.args.point c.args.priority c.requires.kept c.requires.there refl arrays pending timers refl (omega arith)

pub returns-clause-moved : goal.returns-clause-moved
returns-clause-moved c =
    let after : Tables = record { arrays = c.clear_entry.new.arrays; leases = c.args.tables.now.leases; pending = with_item c.args.tables.now.pending c.number-key.result None; timers = c.remove_timer.new.timers; live = c.args.tables.now.live; under_way = c.args.tables.now.under_way - 1 } in
    let is = c.number-key.ensures in
    let arrays = c.clear_entry.ensures in
    let pending : set c.args.tables.now.pending.items c.number-key.result None ≡ set c.args.tables.now.pending.items (number c.args.point c.args.priority) None = ap (λ n. set c.args.tables.now.pending.items n None) is in
    let place : c.keys.result + c.number-key.result ≡ 16 * length c.args.tables.now.arrays.items + number c.args.point c.args.priority = ap (λ n. n + c.number-key.result) (c.keys.ensures ∙ c.requires.kept.keys) ∙ ap (λ n. 16 * length c.args.tables.now.arrays.items + n) is in
    let timers : c.remove_timer.new.timers ≡ set c.args.tables.now.timers (16 * length c.args.tables.now.arrays.items + number c.args.point c.args.priority) None = c.remove_timer.ensures ∙ ap (λ n. set c.args.tables.now.timers n None) place in
    moved-taken_pending c.args.tables.now after c.args.point c.args.priority c.requires.kept c.requires.there refl arrays pending timers

pub returns-clause-timed : goal.returns-clause-timed
returns-clause-timed c =
    let after : Tables = record { arrays = c.clear_entry.new.arrays; leases = c.args.tables.now.leases; pending = with_item c.args.tables.now.pending c.number-key.result None; timers = c.remove_timer.new.timers; live = c.args.tables.now.live; under_way = c.args.tables.now.under_way - 1 } in
    let is = c.number-key.ensures in
    let arrays = c.clear_entry.ensures in
    let pending : set c.args.tables.now.pending.items c.number-key.result None ≡ set c.args.tables.now.pending.items (number c.args.point c.args.priority) None = ap (λ n. set c.args.tables.now.pending.items n None) is in
    let place : c.keys.result + c.number-key.result ≡ 16 * length c.args.tables.now.arrays.items + number c.args.point c.args.priority = ap (λ n. n + c.number-key.result) (c.keys.ensures ∙ c.requires.kept.keys) ∙ ap (λ n. 16 * length c.args.tables.now.arrays.items + n) is in
    let timers : c.remove_timer.new.timers ≡ set c.args.tables.now.timers (16 * length c.args.tables.now.arrays.items + number c.args.point c.args.priority) None = c.remove_timer.ensures ∙ ap (λ n. set c.args.tables.now.timers n None) place in
    timed-taken_pending c.args.tables.now after c.args.point c.args.priority c.requires.kept c.requires.there refl arrays pending timers
