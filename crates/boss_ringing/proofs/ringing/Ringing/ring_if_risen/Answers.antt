use Rattle.std.proofs.Common.{◌∙◌, sym, ap}
use Rattle.boss_ringing.specs.Rising.{has_want}
use Rattle.boss_ringing.proofs.Lifting.{rang-one}
use Rattle.boss_ringing.proofs.ringing.Ringing.ring_if_risen.Goals as goal

pub returns-then-has_want-clause-rang : goal.returns-then-has_want-clause-rang
returns-then-has_want-clause-rang g c = λ plant s is told.
    rang-one g.B.Ringer.tells g.B.Ringer.whole g.B.Ringer.rung plant s (g.K.Keeper.state c.args.self.now.keeper) c.args.driver c.driver_bell.result c.args.self.now.ringer c.ring.new.self
    (sym told ∙ c.if-before.false)
    (ap (λ points. has_want points (g.K.Keeper.state c.args.self.now.keeper) c.args.driver) is ∙ sym c.has_want.ensures ∙ c.if-has_want.true)
    c.driver_bell.ensures c.ring.ensures.rung
