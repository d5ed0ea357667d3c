use Rattle.std.proofs.Common.{List, ◌∙◌, subst}
use Rattle.boss_model.specs.declared.state.Actuator.{Actuator}
use Rattle.boss_model.specs.Seen.{seen}
use Rattle.boss_model.specs.Sound.{IsSoundPersistent}
use Rattle.trial_states.proofs.adopting.adopted.Goals as goal

pub adopt_state-requires : goal.adopt_state-requires
adopt_state-requires c =
    subst (λ (p : List Actuator). IsSoundPersistent p (seen c.args.kept.now)) (c.deref.ensures.value ∙ c.in_ok-plant.ensures) (c.is_sound.ensures.sound c.if-not-is_sound.false)
