use Rattle.std.proofs.Common.{◌≡◌, map, take, ◌++◌, length}
use Rattle.std.specs.Prelude.{flat_map}
use Rattle.boss_snapshot.specs.Drafts.{Goes, so_far}
use Rattle.boss_snapshot.proofs.spilled.spill_items.Given as goal

abbrev pub invariant-loop-item : goal.invariant-loop-item
invariant-loop-item g l =
    (g.D.Disk.tells → l.draft.place ≡ length (g.D.Disk.reads l.disk))
    × (g.D.Disk.tells → so_far (g.D.Disk.reads l.disk) l.draft
    ≡ so_far (g.D.Disk.reads l.fn.disk) l.fn.draft ++ flat_map g.T.Spilled.field.text (map g.T.Spilled.view (take l.item-index l.items)))
    × (g.D.Disk.tells → Goes (g.D.Disk.story l.fn.disk) (g.D.Disk.story l.disk))
    × (g.D.Disk.faults l.disk ≡ g.D.Disk.faults l.fn.disk)
