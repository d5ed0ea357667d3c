use Rattle.std.proofs.Common.{◌≡◌, ◌∙◌, ◌+◌, ◌*◌, Some, length, set, refl, ap, subst, arith}
use Rattle.boss_array.specs.declared.array.Entry.TheVariants as entry
use Rattle.boss_slots.specs.declared.tables.Tables.{Tables}
use Rattle.std.specs.Vec.{with_item}
use Rattle.boss_slots.specs.Tables.{IsEntrySet, number}
use Rattle.boss_slots.proofs.Kept.{few-under_way, kept-put_pending, moved-put_pending, timed-put_pending}
use Rattle.boss_slots.proofs.tables.put_pending.Goals as goal

pub overflow_add-tables : goal.overflow_add-tables
overflow_add-tables c =
    let after : Tables = record { arrays = c.set_entry.new.arrays; leases = c.args.tables.now.leases; pending = with_item c.args.tables.now.pending c.number-key.result (Some c.args.reversion); timers = c.set_timer.new.timers; live = c.args.tables.now.live; under_way = c.args.tables.now.under_way + 1 } in
    let is = c.number-key.ensures in
    let arrays = subst (λ n. IsEntrySet c.args.tables.now.arrays.items c.set_entry.new.arrays.items c.args.reversion.point c.args.reversion.priority (Some (entry.Pending n))) is c.set_entry.ensures in
    let pending : set c.args.tables.now.pending.items c.number-key.result (Some c.args.reversion) ≡ set c.args.tables.now.pending.items (number c.args.reversion.point c.args.reversion.priority) (Some c.args.reversion) = ap (λ n. set c.args.tables.now.pending.items n (Some c.args.reversion)) is in
    let place : c.keys.result + c.number-key.result ≡ 16 * length c.args.tables.now.arrays.items + number c.args.reversion.point c.args.reversion.priority = ap (λ n. n + c.number-key.result) (c.keys.ensures ∙ c.requires.kept.keys) ∙ ap (λ n. 16 * length c.args.tables.now.arrays.items + n) is in
    let timers : c.set_timer.new.timers ≡ set c.args.tables.now.timers (16 * length c.args.tables.now.arrays.items + number c.args.reversion.point c.args.reversion.priority) (Some c.args.next) = c.set_timer.ensures ∙ ap (λ n. set c.args.tables.now.timers n (Some c.args.next)) place in
    let few = few-under_way c.args.tables.now after
    c.args.reversion c.args.next c.requires.kept c.requires.empty refl arrays pending timers c.requires.point c.requires.level.0 c.requires.level.1 in omega arith

pub returns-clause-kept : goal.returns-clause-kept
returns-clause-kept c =
    let after : Tables = record { arrays = c.set_entry.new.arrays; leases = c.args.tables.now.leases; pending = with_item c.args.tables.now.pending c.number-key.result (Some c.args.reversion); timers = c.set_timer.new.timers; live = c.args.tables.now.live; under_way = c.args.tables.now.under_way + 1 } in
    let is = c.number-key.ensures in
    let arrays = subst (λ n. IsEntrySet c.args.tables.now.arrays.items c.set_entry.new.arrays.items c.args.reversion.point c.args.reversion.priority (Some (entry.Pending n))) is c.set_entry.ensures in
    let pending : set c.args.tables.now.pending.items c.number-key.result (Some c.args.reversion) ≡ set c.args.tables.now.pending.items (number c.args.reversion.point c.args.reversion.priority) (Some c.args.reversion) = ap (λ n. set c.args.tables.now.pending.items n (Some c.args.reversion)) is in
    let place : c.keys.result + c.number-key.result ≡ 16 * length c.args.tables.now.arrays.items + number c.args.reversion.point c.args.reversion.priority = ap (λ n. n + c.number-key.result) (c.keys.ensures ∙ c.requires.kept.keys) ∙ ap (λ n. 16 * length c.args.tables.now.arrays.items + n) is in
    let timers : c.set_timer.new.timers ≡ set c.args.tables.now.timers (16 * length c.args.tables.now.arrays.items + number c.args.reversion.point c.args.reversion.priority) (Some c.args.next) = c.set_timer.ensures ∙ ap (λ n. set c.args.tables.now.timers n (Some c.args.next)) place in
    kept-put_pending c.args.tables.now after c.args.reversion c.args.next c.requires.kept c.requires.empty refl arrays pending timers c.requires.point c.requires.level.0 c.requires.level.1 refl refl

pub returns-clause-moved : goal.returns-clause-moved
returns-clause-moved c =
    let after : Tables = record { arrays = c.set_entry.new.arrays; leases = c.args.tables.now.leases; pending = with_item c.args.tables.now.pending c.number-key.result (Some c.args.reversion); timers = c.set_timer.new.timers; live = c.args.tables.now.live; under_way = c.args.tables.now.under_way + 1 } in
    let is = c.number-key.ensures in
    let arrays = subst (λ n. IsEntrySet c.args.tables.now.arrays.items c.set_entry.new.arrays.items c.args.reversion.point c.args.reversion.priority (Some (entry.Pending n))) is c.set_entry.ensures in
    let pending : set c.args.tables.now.pending.items c.number-key.result (Some c.args.reversion) ≡ set c.args.tables.now.pending.items (number c.args.reversion.point c.args.reversion.priority) (Some c.args.reversion) = ap (λ n. set c.args.tables.now.pending.items n (Some c.args.reversion)) is in
    let place : c.keys.result + c.number-key.result ≡ 16 * length c.args.tables.now.arrays.items + number c.args.reversion.point c.args.reversion.priority = ap (λ n. n + c.number-key.result) (c.keys.ensures ∙ c.requires.kept.keys) ∙ ap (λ n. 16 * length c.args.tables.now.arrays.items + n) is in
    let timers : c.set_timer.new.timers ≡ set c.args.tables.now.timers (16 * length c.args.tables.now.arrays.items + number c.args.reversion.point c.args.reversion.priority) (Some c.args.next) = c.set_timer.ensures ∙ ap (λ n. set c.args.tables.now.timers n (Some c.args.next)) place in
    moved-put_pending c.args.tables.now after c.args.reversion c.args.next c.requires.kept c.requires.empty refl arrays pending timers c.requires.point c.requires.level.0 c.requires.level.1

pub returns-clause-timed : goal.returns-clause-timed
returns-clause-timed c =
    let after : Tables = record { arrays = c.set_entry.new.arrays; leases = c.args.tables.now.leases; pending = with_item c.args.tables.now.pending c.number-key.result (Some c.args.reversion); timers = c.set_timer.new.timers; live = c.args.tables.now.live; under_way = c.args.tables.now.under_way + 1 } in
    let is = c.number-key.ensures in
    let arrays = subst (λ n. IsEntrySet c.args.tables.now.arrays.items c.set_entry.new.arrays.items c.args.reversion.point c.args.reversion.priority (Some (entry.Pending n))) is c.set_entry.ensures in
    let pending : set c.args.tables.now.pending.items c.number-key.result (Some c.args.reversion) ≡ set c.args.tables.now.pending.items (number c.args.reversion.point c.args.reversion.priority) (Some c.args.reversion) = ap (λ n. set c.args.tables.now.pending.items n (Some c.args.reversion)) is in
    let place : c.keys.result + c.number-key.result ≡ 16 * length c.args.tables.now.arrays.items + number c.args.reversion.point c.args.reversion.priority = ap (λ n. n + c.number-key.result) (c.keys.ensures ∙ c.requires.kept.keys) ∙ ap (λ n. 16 * length c.args.tables.now.arrays.items + n) is in
    let timers : c.set_timer.new.timers ≡ set c.args.tables.now.timers (16 * length c.args.tables.now.arrays.items + number c.args.reversion.point c.args.reversion.priority) (Some c.args.next) = c.set_timer.ensures ∙ ap (λ n. set c.args.tables.now.timers n (Some c.args.next)) place in
    timed-put_pending c.args.tables.now after c.args.reversion c.args.next c.requires.kept c.requires.empty refl arrays pending timers c.requires.point c.requires.level.0 c.requires.level.1
