use Rattle.std.proofs.Common.{◌≡◌, ◌+◌, [], length, drop}
use Rattle.boss_points.specs.Seen.{views}
use Rattle.boss_access.specs.Reading.{rules_from}
use Rattle.boss_access.proofs.rules.all_rules.Given as goal

-- what the rules so far and those to come give is what all give; there are as many as were read
abbrev pub invariant-loop-at : goal.invariant-loop-at
invariant-loop-at l = record {
  told : rules_from (l.at + 1) l.rules.items (views (drop l.at l.tables)) ≡ rules_from 1 [] (views l.tables);
  count : length l.rules.items ≡ l.at;
}
