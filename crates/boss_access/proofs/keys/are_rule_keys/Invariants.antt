use Rattle.std.proofs.Common.{◌≡◌}
use Rattle.toml.specs.View.{members_view, table_view}
use Rattle.boss_access.specs.Keys.{all_among, rule_keys}
use Rattle.boss_access.proofs.keys.are_rule_keys.Given as goal

-- no key so far is one that a rule may not have
abbrev pub invariant-loop-key : goal.invariant-loop-key
invariant-loop-key l = all_among rule_keys (members_view l.key-iterator) ≡ all_among rule_keys (table_view l.table)
