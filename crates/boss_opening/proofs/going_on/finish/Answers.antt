use Rattle.boss_opening.proofs.Finishes.{finished_ill, finished_well}
use Rattle.boss_opening.proofs.going_on.finish.Goals as goal

pub returns-in-Ok : goal.returns-in-Ok
returns-in-Ok g c =
    let engine = c.args.engine in
    finished_well engine.plant engine.state c.args.log_limit c.args.pair c.renew.new.pair c.renew.ensures.digest c.renew.ensures.passes c.resting.result c.open_points.new.self
    c.resting.ensures.disks c.resting.ensures.engine c.open_points.ensures.plant c.open_points.ensures.state c.in-Ok.ensures.rest c.open_points.ensures.sound c.renew.ensures.events
    c.in-Ok.ensures.going c.resting.ensures.limit c.in-Ok.ensures.fine

pub returns-in-Err : goal.returns-in-Err
returns-in-Err g c =
    let engine = c.args.engine in
    finished_ill engine.plant engine.state c.args.log_limit c.args.pair c.renew.new.pair c.renew.ensures.digest c.renew.ensures.passes c.close.result c.in-Err.refusal c.close.ensures.disks
    c.in-Err.ensures.refuses c.in-Err.ensures.cause
