use Rattle.std.proofs.Common.{◌≡◌, ◌+◌, ◌-◌}
use Rattle.def_bytes.specs.Fields.{items_at}
use Rattle.def_bytes.specs.States.{told}
use Rattle.boss_records.proofs.Items.{with_front}
use Rattle.boss_snapshot.specs.Numbered.{numbered}
use Rattle.boss_snapshot.proofs.processes.read_notices.Given as goal

abbrev pub invariant-loop-place : goal.invariant-loop-place
invariant-loop-place l = with_front l.notices.items (numbered (l.before + 1 + l.place) (items_at told (l.count - l.place) l.rest)) ≡ numbered (l.before + 1) (items_at told l.count l.bytes)
