use Rattle.boss_server.proofs.keeping.serve_keeper.Goals as goal

pub returns-clause-ran : goal.returns-clause-ran
returns-clause-ran g c = rw c.as_ref.ensures.value at c.serve_by.ensures.ran
