use Rattle.boss_disk.proofs.Runs.{wrote_through}
use Rattle.boss_disk.proofs.disk.write_through.Goals as goal

pub returns-clause-windows : goal.returns-clause-windows
returns-clause-windows g c told =
    wrote_through _ _ _ _ _ _ _ _ (c.in_ok-write_at.ensures.bytes told) (c.in_ok-write_at.ensures.windows told).done (c.sync.ensures.windows told)
