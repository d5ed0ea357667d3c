use Rattle.boss_snapshot.proofs.Clearings.{cut_run}
use Rattle.boss_snapshot.proofs.clearing.clear.Goals as goal

pub returns-clause-images : goal.returns-clause-images
returns-clause-images g c told synced =
    cut_run _ _ _ _ _ _ (c.put_zero.ensures.images told synced) (c.in_ok-put_zero.ensures.zero told)
    (c.in_ok-put_zero.ensures.synced told synced) (c.cut.ensures.windows told)
