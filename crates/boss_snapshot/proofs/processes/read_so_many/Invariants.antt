use Rattle.std.proofs.Common.{◌≡◌, ◌-◌, map}
use Rattle.def_bytes.specs.States.{process}
use Rattle.def_bytes.specs.Fields.{items_at}
use Rattle.boss_model.specs.Seen.{seen_process}
use Rattle.boss_records.proofs.Items.{with_front}
use Rattle.boss_snapshot.proofs.processes.read_so_many.Given as goal

abbrev pub invariant-loop : goal.invariant-loop
invariant-loop l = with_front (map seen_process l.processes.items) (items_at (process l.version) (l.count - l.counter) l.rest) ≡ items_at (process l.version) l.count l.bytes
