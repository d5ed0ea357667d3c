use Rattle.std.proofs.Common.{◌+◌, refl}
use Rattle.boss_slots.specs.declared.tables.Tables.{Tables}
use Rattle.boss_slots.proofs.Kept.{key-free, kept-put_lease, moved-put_lease, timed-put_lease}
use Rattle.boss_slots.proofs.tables.put_lease.Goals as goal

pub add-key-requires : goal.add-key-requires
add-key-requires c = key-free c.args.tables.now c.args.lease c.requires.kept c.requires.point c.requires.level.0 c.requires.level.1 c.requires.empty

pub returns-clause-kept : goal.returns-clause-kept
returns-clause-kept c =
    let after : Tables = record { arrays = c.set_entry.new.arrays; leases = c.add-key.new.self; pending = c.args.tables.now.pending; timers = c.set_timer.new.timers; live = c.args.tables.now.live + 1; under_way = c.args.tables.now.under_way } in
    let arrays = c.set_entry.ensures in
    kept-put_lease c.args.tables.now after c.add-key.result c.args.lease c.requires.kept c.add-key.ensures.free c.add-key.ensures.within c.add-key.ensures.kept c.requires.empty arrays refl c.set_timer.ensures
    c.requires.point c.requires.level.0 c.requires.level.1 refl refl

pub returns-clause-moved : goal.returns-clause-moved
returns-clause-moved c =
    let after : Tables = record { arrays = c.set_entry.new.arrays; leases = c.add-key.new.self; pending = c.args.tables.now.pending; timers = c.set_timer.new.timers; live = c.args.tables.now.live + 1; under_way = c.args.tables.now.under_way } in
    let arrays = c.set_entry.ensures in
    moved-put_lease c.args.tables.now after c.add-key.result c.args.lease c.requires.kept c.add-key.ensures.free c.add-key.ensures.within c.add-key.ensures.kept c.requires.empty arrays refl c.set_timer.ensures
    c.requires.point c.requires.level.0 c.requires.level.1

pub returns-clause-timed : goal.returns-clause-timed
returns-clause-timed c =
    let after : Tables = record { arrays = c.set_entry.new.arrays; leases = c.add-key.new.self; pending = c.args.tables.now.pending; timers = c.set_timer.new.timers; live = c.args.tables.now.live + 1; under_way = c.args.tables.now.under_way } in
    let arrays = c.set_entry.ensures in
    timed-put_lease c.args.tables.now after c.add-key.result c.args.lease c.requires.kept c.add-key.ensures.free c.add-key.ensures.within c.add-key.ensures.kept c.requires.empty arrays refl c.set_timer.ensures
    c.requires.point c.requires.level.0 c.requires.level.1
