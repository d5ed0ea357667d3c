use Rattle.std.proofs.Common.{sym, subst, ◌∙◌}
use Rattle.boss_model.specs.Plants.{IsPlant}
use Rattle.boss_durable.proofs.Redoing.{sound_fits}
use Rattle.boss_durable.proofs.sound_engine.SoundEngine.restore.Goals as goal

pub new-requires-clause-plant : goal.new-requires-clause-plant
new-requires-clause-plant c = subst IsPlant (sym c.in-Ok.ensures.plant) c.count.ensures.plant

pub returns-in-Ok-clause-engine : goal.returns-in-Ok-clause-engine
returns-in-Ok-clause-engine c = c.new.ensures ∙ (λ i. record { plant = c.in-Ok.ensures.plant i; state = c.in-Ok.ensures.state i })

pub returns-in-Ok-clause-fits : goal.returns-in-Ok-clause-fits
returns-in-Ok-clause-fits c = sound_fits _ _ c.count.ensures.plant c.in-Ok.ensures.right
