use Rattle.std.proofs.Common.{◌≡◌}
use Rattle.toml.specs.View.{members_view, table_view}
use Rattle.boss_access.specs.Keys.{all_among}
use Rattle.boss_keys.specs.Tables.{entry_keys}
use Rattle.boss_keys.proofs.table.are_entry_keys.Given as goal

-- no key so far is one that an entry may not have
abbrev pub invariant-loop-key : goal.invariant-loop-key
invariant-loop-key l = all_among entry_keys (members_view l.key-iterator) ≡ all_among entry_keys (table_view l.table)
