use Rattle.std.proofs.Common.{◌∙◌, sym, ap}
use Rattle.boss_disk.specs.Window.{settled}
use Rattle.boss_disk.proofs.Runs.{then_through}
use Rattle.boss_snapshot.proofs.Writings.{mark_run, sync_run}
use Rattle.boss_snapshot.proofs.writing.put_mark.Goals as goal

pub returns-in_err-settle-clause-images : goal.returns-in_err-settle-clause-images
returns-in_err-settle-clause-images g c told tail is keeps = sync_run tail _ _ _ _ is keeps (c.settle.ensures.windows told)

pub returns-clause-images : goal.returns-clause-images
returns-clause-images g c told tail is keeps =
    then_through _ _ _ (sync_run tail _ _ _ _ is keeps (c.settle.ensures.windows told))
    (mark_run tail _ _ _ _ (c.settle.ensures.reads told ∙ is)
    ((c.in_ok-settle.ensures.windows told).done.window ∙ ap settled (sym (c.settle.ensures.reads told))) (c.write_through.ensures.windows told))
