use Rattle.boss_server.proofs.gating.serve_behind.Goals as goal

pub returns-in-None-clause-account : goal.returns-in-None-clause-account
returns-in-None-clause-account g c = rw c.in-None.is c.serve_open.ensures.account

pub returns-in-Some-clause-account : goal.returns-in-Some-clause-account
returns-in-Some-clause-account g c = rw c.in-Some.is c.serve_gated.ensures.account
