use Rattle.std.proofs.Common.{inl, inr, subst, Ok}
use Rattle.boss_journal.specs.declared.start.Start.{Start}
use Rattle.boss_journal.specs.Opens.{IsStart}
use Rattle.boss_journal.proofs.NewJournals.{made_newest}
use Rattle.boss_journal.proofs.making.make.Goals as goal

pub returns-in_ok-put_head-in-Begun-clause-opens : goal.returns-in_ok-put_head-in-Begun-clause-opens
returns-in_ok-put_head-in-Begun-clause-opens g c told synced =
    let begun = subst (λ (s : Start). IsStart c.args.digest.now (g.D.Disk.reads c.args.disk.now) (Ok s)) c.in-Begun.is (c.requires told) in
    made_newest c.args.digest.now _ _ _ c.told-digest (inr (inl begun.0)) begun.1 (c.in_ok-put_head-in-Begun.ensures.made told)
