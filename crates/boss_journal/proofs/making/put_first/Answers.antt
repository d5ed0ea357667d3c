use Rattle.boss_disk.proofs.Runs.{then_through}
use Rattle.boss_journal.proofs.NewJournals.{first_images, settled_now}
use Rattle.boss_journal.proofs.making.put_first.Goals as goal

pub returns-clause-images : goal.returns-clause-images
returns-clause-images g c told synced =
    then_through _ _ _
    (first_images c.args.digest.now _ _ _ _ (c.requires told) synced (c.write_through.ensures.windows told))
    (c.put_head.ensures.images told
    (settled_now _ _ _ (c.in_ok-write_through.ensures.windows told).kept (c.in_ok-write_through.ensures.bytes told)))
