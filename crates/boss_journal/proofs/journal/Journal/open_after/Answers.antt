use Rattle.boss_journal.proofs.Passed.{at_first}
use Rattle.boss_journal.proofs.journal.Journal.open_after.Goals as goal

pub returns-in-Ok-clause-at : goal.returns-in-Ok-clause-at
returns-in-Ok-clause-at g c told front rest is here =
    at_first front rest c.args.place _ _ _ is here (c.requires told) (c.in-Ok.ensures.place told) (c.read_version.ensures.reads told)
