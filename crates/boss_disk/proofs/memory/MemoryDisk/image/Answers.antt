use Rattle.boss_disk.proofs.Picked.{picked_image, starts_with}
use Rattle.boss_disk.specs.Images.{holds_along, holds_fresh}
use Rattle.boss_disk.specs.Record.{fresh, state_of}
use Rattle.boss_disk.proofs.memory.MemoryDisk.image.Goals as goal

pub returns-clause-image : goal.returns-clause-image
returns-clause-image c =
    starts_with _ _ _ _ _
    (picked_image c.args.pick (state_of c.args.self.now) c.in_ok-contents.contents
    (holds_along (fresh c.args.self.now.start) c.args.self.now.calls (holds_fresh c.args.self.now.start)) c.in_ok-contents.ensures)
    c.of_kind.ensures
