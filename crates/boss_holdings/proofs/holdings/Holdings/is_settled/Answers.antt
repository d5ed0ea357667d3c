use Rattle.boss_holdings.proofs.holdings.Holdings.is_settled.Goals as goal

pub returns-clause-touched : goal.returns-clause-touched
returns-clause-touched c = rw (← c.self.view_is) c.are_clear.ensures.set
