use Rattle.std.proofs.Common.{List, refl, sym, ap, ◌∙◌, subst}
use Rattle.boss_model.specs.declared.state.Actuator.{Actuator}
use Rattle.boss_model.specs.Seen.{seen}
use Rattle.boss_model.specs.Sound.{IsSoundPersistent}
use Rattle.boss_durable.specs.Redone.{opened_at}
use Rattle.boss_durable.proofs.Doing.{keeps_leaves, keeps_passes}
use Rattle.boss_durable.proofs.durable.Durable.take_state.Goals as goal

pub returns-then-stopped-clause-passes : goal.returns-then-stopped-clause-passes
returns-then-stopped-clause-passes g c = keeps_passes c.args.self.now

pub returns-then-stopped-clause-leaves : goal.returns-then-stopped-clause-leaves
returns-then-stopped-clause-leaves g c = keeps_leaves c.args.self.now

pub go_on_with-requires-clause-engine : goal.go_on_with-requires-clause-engine
go_on_with-requires-clause-engine g c = c.in-Ok.ensures.engine ∙ ap (λ plant. opened_at plant (seen c.args.kept.now)) (sym c.requires.plant)

pub go_on_with-requires-clause-sound : goal.go_on_with-requires-clause-sound
go_on_with-requires-clause-sound g c = subst (λ (plant : List Actuator). IsSoundPersistent plant (seen c.args.kept.now)) (sym c.requires.plant) c.in-Ok.ensures.sound

pub returns-in-Err-NotSound-clause-takes : goal.returns-in-Err-NotSound-clause-takes
returns-in-Err-NotSound-clause-takes g c = (
  subst (λ (plant : List Actuator). ¬ IsSoundPersistent plant (seen c.args.kept.now)) (sym c.requires.plant)
      (c.in-Err-NotSound.ensures.wrong c.in-Err-NotSound.field-0-is),
  refl,
)

pub returns-in-Err-NotSound-clause-passes : goal.returns-in-Err-NotSound-clause-passes
returns-in-Err-NotSound-clause-passes g c = keeps_passes c.args.self.now

pub returns-in-Err-NotSound-clause-leaves : goal.returns-in-Err-NotSound-clause-leaves
returns-in-Err-NotSound-clause-leaves g c = keeps_leaves c.args.self.now

pub returns-in-Err-NoMemory-clause-passes : goal.returns-in-Err-NoMemory-clause-passes
returns-in-Err-NoMemory-clause-passes g c = keeps_passes c.args.self.now

pub returns-in-Err-NoMemory-clause-leaves : goal.returns-in-Err-NoMemory-clause-leaves
returns-in-Err-NoMemory-clause-leaves g c = keeps_leaves c.args.self.now
