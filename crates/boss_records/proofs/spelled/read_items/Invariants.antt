use Rattle.std.proofs.Common.{◌≡◌, ◌-◌, map}
use Rattle.def_bytes.specs.Fields.{items_at}
use Rattle.boss_records.proofs.Items.{with_front}
use Rattle.boss_records.proofs.spelled.read_items.Given as goal

abbrev pub invariant-loop : goal.invariant-loop
invariant-loop g l = with_front (map g.T.Spelled.view l.items.items) (items_at g.T.Spelled.field (l.count - l.counter) l.rest) ≡ items_at g.T.Spelled.field l.count l.bytes
