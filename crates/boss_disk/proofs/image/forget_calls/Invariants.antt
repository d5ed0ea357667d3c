use Rattle.std.proofs.Common.{◌≡◌, take}
use Rattle.std.specs.List.{fold}
use Rattle.boss_disk.specs.Kept.{stays_after}
use Rattle.boss_disk.proofs.image.forget_calls.Given as goal

abbrev pub invariant-loop-call : goal.invariant-loop-call
invariant-loop-call l = l.stays.items ≡ fold stays_after l.initial.stays.items (take l.call-index l.calls)
