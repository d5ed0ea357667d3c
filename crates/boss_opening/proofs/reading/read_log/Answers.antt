use Rattle.std.proofs.Common.{[]}
use Rattle.std.proofs.lemmas.Result.{MatchResult-weaker}
use Rattle.boss_opening.proofs.ReadOn.{was_damaged}
use Rattle.boss_opening.proofs.reading.read_log.Goals as goal

pub returns-in-Ok-clause-damaged : goal.returns-in-Ok-clause-damaged
returns-in-Ok-clause-damaged g c =
    MatchResult-weaker c.read_all.result c.read_all.ensures.damaged (λ count all. all)
    (λ why damaged place is. was_damaged c.args.pair.now c.read_all.new.pair c.read_all.ensures.same c.args.engine.now.plant place
    (damaged place is c.args.engine.now.state.persistent c.args.pair.now.events [] c.requires.begins))
