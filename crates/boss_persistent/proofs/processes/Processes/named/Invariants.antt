use Rattle.std.proofs.Common.{◌≡◌, false, take, nat_eq}
use Rattle.std.specs.Cmp.Lexicographic.{pointwise}
use Rattle.std.specs.List.{list_any}
use Rattle.boss_persistent.proofs.processes.Processes.named.Given as goal

-- none of the names so far is this one
abbrev pub invariant-loop-place : goal.invariant-loop-place
invariant-loop-place l = list_any (λ known. pointwise nat_eq known.name l.name) (take l.place l.self-inside.entries.items) ≡ false
