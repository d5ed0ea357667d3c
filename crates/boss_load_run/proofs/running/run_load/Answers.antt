use Rattle.std.proofs.Common.{◌++◌, ap, ◌∙◌}
use Rattle.boss_load_run.proofs.running.run_load.Goals as goal

pub returns : goal.returns
returns g c = (c.in_ok-summary.summary, c.in_ok-summary.ensures, λ tells. c.in_ok-write.ensures.bytes tells ∙ ap (λ bytes. g.K.Sink.taken c.args.sink.now ++ bytes) (c.deref.ensures.value ∙ c.in_ok-line.ensures), c.in_ok-write.ensures.cause.fine)
