use Rattle.std.proofs.Common.{◌≡◌, ◌-◌}
use Rattle.boss_disk.specs.Window.{written}
use Rattle.boss_disk.proofs.image.forget.Given as goal

abbrev pub invariant-loop-place : goal.invariant-loop-place
invariant-loop-place l = l.stays ≡ written l.from (l.place - l.from) l.initial.stays
