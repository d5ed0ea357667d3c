use Rattle.std.proofs.Common.{length}
use Rattle.boss_durable.specs.Words.{lasting, keeps, leaves}
use Rattle.boss_durable.proofs.durable.Durable.close.Goals as goal

pub returns-clause-opens : goal.returns-clause-opens
unfolding keeps
returns-clause-opens g c told events held few = c.close.ensures.opens told c.args.self.engine.plant (lasting c.args.self) (length events) held few

pub returns-clause-left : goal.returns-clause-left
unfolding leaves
returns-clause-left g c told a b held = c.close.ensures.left told c.args.self.engine.plant a b held
