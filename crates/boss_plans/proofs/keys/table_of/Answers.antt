use Rattle.toml.proofs.Views.{view-Table}
use Rattle.boss_points.proofs.Texts.{table_of-text, table_of-no_text}
use Rattle.boss_plans.proofs.keys.table_of.Goals as goal

pub returns-in_default-clause-table : goal.returns-in_default-clause-table
returns-in_default-clause-table c = rw (table_of-no_text c.args.bytes.now c.in_default.ensures.cases.0)

pub returns-in-Ok-table_from_str-clause-table : goal.returns-in-Ok-table_from_str-clause-table
returns-in-Ok-table_from_str-clause-table c =
    let (same, text) = c.in-Ok.ensures.cases in
    rw (table_of-text c.args.bytes.now text, ← same, c.in-Ok-table_from_str.ensures.ok, view-Table c.in-Ok-table_from_str.table)
