use Rattle.std.proofs.Common.{◌≡◌, ◌+◌, ◌*◌, ◌≤◌, map, take, ◌++◌, length}
use Rattle.std.specs.Prelude.{flat_map}
use Rattle.boss_records.proofs.written.write_items.Given as goal

abbrev pub invariant-loop-item : goal.invariant-loop-item
invariant-loop-item g l =
    (g.R.Room.bytes l.into ≡ g.R.Room.bytes l.fn.into ++ flat_map g.T.Written.field.text (map g.T.Written.view (take l.item-index l.items)))
    × (length (g.R.Room.bytes l.into) ≤ length (g.R.Room.bytes l.fn.into) + l.item-index * g.T.Written.field.most)
    × (g.R.Room.capacity l.into ≡ g.R.Room.capacity l.fn.into)
