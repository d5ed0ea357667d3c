use Rattle.boss_holdings.proofs.Shown.{few-slots}
use Rattle.boss_holdings.proofs.holdings.Holdings.leases.Goals as goal

pub returns-clause-few : goal.returns-clause-few
returns-clause-few c = rw (← c.self.view_is) (few-slots c.self.inside.tables c.self.invariant.kept)
