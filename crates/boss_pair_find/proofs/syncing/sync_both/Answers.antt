use Rattle.std.proofs.Common.{sym, ap, ◌∙◌}
use Rattle.boss_disk.specs.Window.{settled}
use Rattle.boss_pair_find.proofs.Syncs.{sync_run, first_syncs, both_sync, both_settle}
use Rattle.boss_pair_find.proofs.syncing.sync_both.Goals as goal

pub returns-in_err-sync-clause-images : goal.returns-in_err-sync-clause-images
returns-in_err-sync-clause-images g c told =
    first_syncs _ _ _ (sync_run _ _ _ _ (g.met.D.Disk.reads_stay c.args.first.now told) (c.sync.ensures.windows told))

pub returns-clause-images : goal.returns-clause-images
returns-clause-images g c told =
    both_sync _ _ _ _ (sync_run _ _ _ _ (g.met.D.Disk.reads_stay c.args.first.now told) (c.sync.ensures.windows told))
    (sync_run _ _ _ _ (g.met.D.Disk.reads_stay c.args.second.now told) (c.sync-2.ensures.windows told))

pub returns-clause-settles : goal.returns-clause-settles
returns-clause-settles g c told =
    both_settle _ _ _ _ _ _ _ _ ((c.in_ok-sync.ensures.windows told).done.window ∙ ap settled (sym (c.sync.ensures.bytes told))) (c.sync-2.ensures.bytes told)
    (c.sync-2.ensures.windows told)
