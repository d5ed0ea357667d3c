use Rattle.std.proofs.Common.{◌≡◌, ◌++◌}
use Rattle.std.specs.List.{flat_map, range_with_len}
use Rattle.boss_load.specs.Day.{attaches_text, transaction_text}
use Rattle.boss_load.proofs.script.load_script.Given as goal

-- the transactions so far
abbrev pub invariant-loop-number : goal.invariant-loop-number
invariant-loop-number l = l.script.items ≡ attaches_text ++ flat_map (transaction_text l.seed) (range_with_len 0 l.number)
