use Rattle.boss_disk.proofs.Runs.{stands}
use Rattle.boss_journal.proofs.Shutting.{still_leaves}
use Rattle.boss_journal.proofs.journal.Journal.ready.Goals as goal

pub returns-then-self-clause-images : goal.returns-then-self-clause-images
returns-then-self-clause-images g c told front records last synced =
    stands _ (still_leaves front records c.args.self.now.place _ _ last synced)
