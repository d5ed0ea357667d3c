use Rattle.boss_disk.proofs.Runs.{stands}
use Rattle.boss_journal.proofs.Appends.{rest_leaves}
use Rattle.boss_journal.proofs.journal.Journal.append.Goals as goal

pub returns-then-self-clause-images : goal.returns-then-self-clause-images
returns-then-self-clause-images g c told front records rest =
    stands _ (rest_leaves front records c.args.bytes.now c.args.self.now.place _ _ rest)
