use Rattle.toml.proofs.Views.{view-Table}
use Rattle.boss_points.proofs.Texts.{table_of-text, table_of-no_text}
use Rattle.boss_keys.proofs.table.table_of.Goals as goal

pub returns-in_default : goal.returns-in_default
returns-in_default c = rw (table_of-no_text c.args.bytes.now c.in_default.ensures.cases.0)

pub returns-in-Ok-table_from_str : goal.returns-in-Ok-table_from_str
returns-in-Ok-table_from_str c =
    let (same, text) = c.in-Ok.ensures.cases in
    rw (table_of-text c.args.bytes.now text, ← same, c.in-Ok-table_from_str.ensures.ok, view-Table c.in-Ok-table_from_str.table)
