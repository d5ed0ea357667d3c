use Rattle.std.proofs.Common.{◌≡◌, ◌-◌, ◌∙◌, Some, None, get_or, refl, sym, arith}
use Rattle.boss_array.specs.declared.array.Entry.TheVariants as entry
use Rattle.boss_slots.specs.declared.tables.Tables.{Tables}
use Rattle.boss_slots.proofs.Kept.{kept-taken_lease, moved-taken_lease, timed-taken_lease, some-live}
use Rattle.boss_slots.proofs.tables.take_lease.Goals as goal

pub clear_entry-requires-clause-point : goal.clear_entry-requires-clause-point
clear_entry-requires-clause-point c =
    let there : get_or c.args.tables.now.leases c.args.key None ≡ Some c.unwrap-lease.result = sym c.take.ensures.taken ∙ c.unwrap-lease.ensures in
    let at = c.requires.kept.within _ _ (entry.Lease c.args.key) (c.requires.kept.held c.args.key c.unwrap-lease.result there) in
    at.0

pub clear_entry-requires-clause-level : goal.clear_entry-requires-clause-level
clear_entry-requires-clause-level c =
    let there : get_or c.args.tables.now.leases c.args.key None ≡ Some c.unwrap-lease.result = sym c.take.ensures.taken ∙ c.unwrap-lease.ensures in
    let at = c.requires.kept.within _ _ (entry.Lease c.args.key) (c.requires.kept.held c.args.key c.unwrap-lease.result there) in
    (at.1, at.2)

pub returns-clause-kept : goal.returns-clause-kept
returns-clause-kept c =
    let after : Tables = record { arrays = c.clear_entry.new.arrays; leases = c.take.new.self; pending = c.args.tables.now.pending; timers = c.remove_timer.new.timers; live = c.args.tables.now.live - 1; under_way = c.args.tables.now.under_way } in
    let there : get_or c.args.tables.now.leases c.args.key None ≡ Some c.unwrap-lease.result = sym c.take.ensures.taken ∙ c.unwrap-lease.ensures in
    let arrays = c.clear_entry.ensures in
    kept-taken_lease c.args.tables.now after c.args.key c.unwrap-lease.result c.requires.kept there c.take.ensures.left arrays refl c.remove_timer.ensures
    (let some = some-live c.args.tables.now after c.args.key c.unwrap-lease.result c.requires.kept there c.take.ensures.left arrays refl c.remove_timer.ensures in omega arith) refl

pub returns-clause-moved : goal.returns-clause-moved
returns-clause-moved c =
    let after : Tables = record { arrays = c.clear_entry.new.arrays; leases = c.take.new.self; pending = c.args.tables.now.pending; timers = c.remove_timer.new.timers; live = c.args.tables.now.live - 1; under_way = c.args.tables.now.under_way } in
    let there : get_or c.args.tables.now.leases c.args.key None ≡ Some c.unwrap-lease.result = sym c.take.ensures.taken ∙ c.unwrap-lease.ensures in
    let arrays = c.clear_entry.ensures in
    moved-taken_lease c.args.tables.now after c.args.key c.unwrap-lease.result c.requires.kept there c.take.ensures.left arrays refl c.remove_timer.ensures

pub returns-clause-timed : goal.returns-clause-timed
returns-clause-timed c =
    let after : Tables = record { arrays = c.clear_entry.new.arrays; leases = c.take.new.self; pending = c.args.tables.now.pending; timers = c.remove_timer.new.timers; live = c.args.tables.now.live - 1; under_way = c.args.tables.now.under_way } in
    let there : get_or c.args.tables.now.leases c.args.key None ≡ Some c.unwrap-lease.result = sym c.take.ensures.taken ∙ c.unwrap-lease.ensures in
    let arrays = c.clear_entry.ensures in
    timed-taken_lease c.args.tables.now after c.args.key c.unwrap-lease.result c.requires.kept there c.take.ensures.left arrays refl c.remove_timer.ensures
