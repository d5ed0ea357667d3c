use Rattle.std.proofs.Common.{◌≡◌, take}
use Rattle.std.specs.List.{fold}
use Rattle.boss_disk.specs.Record.{bytes_after}
use Rattle.boss_disk.proofs.image.replay.Given as goal

abbrev pub invariant-loop-call : goal.invariant-loop-call
invariant-loop-call l = l.held.items ≡ fold bytes_after l.initial.held.items (take l.call-index l.calls)
