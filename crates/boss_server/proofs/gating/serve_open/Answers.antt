use Rattle.boss_server.proofs.gating.serve_open.Goals as goal

-- this desk has no gates
pub returns-clause-account : goal.returns-clause-account
returns-clause-account g c = rw c.requires.open at c.serve-told.ensures.account
