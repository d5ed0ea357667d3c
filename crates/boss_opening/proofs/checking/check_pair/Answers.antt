use Rattle.boss_opening.proofs.Looks.{looked}
use Rattle.boss_opening.proofs.checking.check_pair.Goals as goal

pub returns : goal.returns
returns g c =
    let e = c.check_log-checked.ensures in
    looked c.args.pair c.check_log-checked.new.pair c.args.engine.plant c.args.engine.state.persistent c.close.result c.close.ensures.disks e.same c.check_log-checked.result
    e.tells e.refuses e.damaged e.fine e.cause c.requires.not_new
