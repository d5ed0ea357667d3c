use Rattle.boss_disk.proofs.Runs.{then_through}
use Rattle.def_log.specs.Versions.{newest_version}
use Rattle.boss_journal.proofs.NewJournals.{head_images, head_fresh, settled_now}
use Rattle.boss_journal.proofs.making.put_head.Goals as goal

pub returns-in_err-put_rest-clause-images : goal.returns-in_err-put_rest-clause-images
returns-in_err-put_rest-clause-images g c told synced =
    head_images c.args.digest.now _ _ _ _ c.told-digest (c.requires told) synced (c.put_rest.ensures.windows told)

pub returns-clause-images : goal.returns-clause-images
returns-clause-images g c told synced =
    then_through _ _ _ (head_images c.args.digest.now _ _ _ _ c.told-digest (c.requires told) synced (c.put_rest.ensures.windows told))
    (c.put_mark.ensures.images told newest_version c.args.digest.now
    (head_fresh c.args.digest.now _ _ c.told-digest (c.requires told) (c.in_ok-put_rest.ensures.reads told))
    (settled_now _ _ _ (c.in_ok-put_rest.ensures.windows told).kept (c.in_ok-put_rest.ensures.reads told)))
