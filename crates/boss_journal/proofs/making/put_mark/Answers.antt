use Rattle.boss_journal.proofs.NewJournals.{mark_images}
use Rattle.boss_journal.proofs.making.put_mark.Goals as goal

pub returns-clause-images : goal.returns-clause-images
returns-clause-images g c told version digest fresh synced = mark_images version digest _ _ _ _ fresh synced (c.write_through.ensures.windows told)
