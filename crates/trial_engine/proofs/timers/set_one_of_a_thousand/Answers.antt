use Rattle.std.proofs.Common.{◌<◌, length, arith}
use Rattle.trial_engine.proofs.timers.set_one_of_a_thousand.Goals as goal

pub returns-clause-few : goal.returns-clause-few
returns-clause-few g c =
    let few : length c.args.timers.now < 1024 = omega (arith, c.requires.capacity) in
    c.set.ensures.cost 10 few
