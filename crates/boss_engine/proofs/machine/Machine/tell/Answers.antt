use Rattle.std.proofs.Common.{ap}
use Rattle.boss_holdings.specs.Held.{Held, shown}
use Rattle.boss_engine.proofs.machine.Machine.tell.Goals as goal

pub returns-clause-untouched : goal.returns-clause-untouched
returns-clause-untouched c = λ default point moment left. ap (λ (h : Held). shown default moment h point) c.reach.ensures
