use Rattle.std.proofs.Common.{◌≡◌, ◌+◌, [], length, drop}
use Rattle.boss_points.specs.Seen.{views}
use Rattle.boss_keys.specs.Reading.{entries_from}
use Rattle.boss_keys.proofs.keys.all_entries.Given as goal

-- what the entries so far and those to come give is what all give; there are as many as were read
abbrev pub invariant-loop-at : goal.invariant-loop-at
invariant-loop-at l = record {
  told : entries_from (l.at + 1) l.entries.items (views (drop l.at l.tables)) ≡ entries_from 1 [] (views l.tables);
  count : length l.entries.items ≡ l.at;
}
