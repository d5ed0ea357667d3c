use Rattle.std.proofs.Common.{◌≡◌, ◌++◌}
use Rattle.std.specs.List.{flat_map, range_with_len}
use Rattle.boss_load.specs.Day.{attach_text}
use Rattle.boss_load.proofs.script.put_attaches.Given as goal

-- the attaches so far
abbrev pub invariant-loop-place : goal.invariant-loop-place
invariant-loop-place l = l.script.items ≡ l.fn.script.items ++ flat_map attach_text (range_with_len 1 l.place)
