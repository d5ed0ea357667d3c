use Rattle.std.proofs.Common.{◌≡◌, ◌++◌}
use Rattle.std.specs.List.{flat_map, range_with_len}
use Rattle.boss_load.specs.Day.{renew_text}
use Rattle.boss_load.proofs.script.put_transaction.Given as goal

-- the renewals so far
abbrev pub invariant-loop-place : goal.invariant-loop-place
invariant-loop-place l = l.script.items ≡ l.initial.script.items ++ flat_map (renew_text l.number) (range_with_len 2 l.place)
