use Rattle.std.proofs.Common.{arith, ◌∙◌, ap}
use Rattle.boss_opening.proofs.Looks.{summed}
use Rattle.boss_opening.proofs.checking.check_log.Goals as goal

pub returns-in-Ok-clause-tells : goal.returns-in-Ok-clause-tells
returns-in-Ok-clause-tells g c =
    summed c.args.pair.now c.read_log.new.pair c.args.engine.plant c.args.engine.state.persistent c.read_log.new.engine.state.persistent c.in-Ok.more _ _ _ _
    c.in-Ok.ensures.same c.in-Ok.ensures.whole c.requires.begins (omega (arith, c.events.ensures, c.saturating_add.ensures, c.min.ensures)) c.now.ensures c.leases.ensures c.pending.ensures
