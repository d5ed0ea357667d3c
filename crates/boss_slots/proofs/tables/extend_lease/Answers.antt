use Rattle.std.proofs.Common.{◌∙◌, None, get_or, set, refl, ap}
use Rattle.boss_slots.specs.declared.tables.Tables.{Tables}
use Rattle.boss_leases.specs.Leases.{until_then}
use Rattle.boss_slots.proofs.Kept.{some-of, kept-extended, moved-extended, timed-extended}
use Rattle.boss_slots.proofs.tables.extend_lease.Goals as goal

pub returns-clause-kept : goal.returns-clause-kept
returns-clause-kept c =
    let after : Tables = record c.args.tables.now { leases = c.extend.new.self } in
    let found = some-of (get_or c.args.tables.now.leases c.args.key None) c.requires.live in
    kept-extended c.args.tables.now after c.args.key c.args.until found.0 c.requires.kept found.1 (c.extend.ensures ∙ ap (λ o. set c.args.tables.now.leases c.args.key (until_then c.args.until o)) found.1) refl refl refl refl refl

pub returns-clause-moved : goal.returns-clause-moved
returns-clause-moved c lease there =
    let after : Tables = record c.args.tables.now { leases = c.extend.new.self } in
    moved-extended c.args.tables.now after c.args.key c.args.until lease c.requires.kept there (c.extend.ensures ∙ ap (λ o. set c.args.tables.now.leases c.args.key (until_then c.args.until o)) there) refl refl refl

pub returns-clause-timed : goal.returns-clause-timed
returns-clause-timed c last lease there later timed =
    let after : Tables = record c.args.tables.now { leases = c.extend.new.self } in
    timed-extended c.args.tables.now after c.args.key c.args.until lease c.requires.kept there (c.extend.ensures ∙ ap (λ o. set c.args.tables.now.leases c.args.key (until_then c.args.until o)) there) refl refl refl later last timed
