use Rattle.std.proofs.Common.{◌∙◌, List, ap, sym, subst}
use Rattle.boss_model.specs.declared.state.Actuator.{Actuator}
use Rattle.boss_model.specs.Seen.{seen}
use Rattle.boss_model.specs.Settle.{opened}
use Rattle.boss_model.specs.Sound.{IsSound, IsSoundPersistent}
use Rattle.law_soundness.proofs.Opened.{opened-sound}
use Rattle.boss_engine.proofs.engine.Engine.restore.Goals as goal

pub for_kept-requires-clause-sound : goal.for_kept-requires-clause-sound
for_kept-requires-clause-sound c =
    subst (λ (p : List Actuator). IsSoundPersistent p (seen c.args.kept.now)) c.deref.ensures.value (c.is_sound.ensures.sound c.if-not-is_sound.false)

pub returns-then-not-is_sound-clause-wrong : goal.returns-then-not-is_sound-clause-wrong
returns-then-not-is_sound-clause-wrong c = λ _ right. c.is_sound.ensures.unsound c.if-not-is_sound.true
    (subst (λ (p : List Actuator). IsSoundPersistent p (seen c.args.kept.now)) (sym (c.deref.ensures.value ∙ c.in_ok-plant.ensures.points)) right)

pub returns-clause-plant : goal.returns-clause-plant
returns-clause-plant c = ap (λ r. r.plant) c.in_ok-for_kept.ensures ∙ c.in_ok-plant.ensures.points

pub returns-clause-state : goal.returns-clause-state
returns-clause-state c = ap (λ r. r.state) c.in_ok-for_kept.ensures ∙ ap (λ p. opened p (seen c.args.kept.now)) c.in_ok-plant.ensures.points

pub returns-clause-sound : goal.returns-clause-sound
returns-clause-sound c =
    let right : IsSoundPersistent c.in_ok-plant.plant.items (seen c.args.kept.now) = subst (λ (p : List Actuator). IsSoundPersistent p (seen c.args.kept.now)) c.deref.ensures.value (c.is_sound.ensures.sound c.if-not-is_sound.false) in
    subst (λ r. IsSound r.plant r.state) (sym c.in_ok-for_kept.ensures) (opened-sound c.in_ok-plant.plant.items (seen c.args.kept.now) right)

pub returns-clause-right : goal.returns-clause-right
returns-clause-right c =
    subst (λ (p : List Actuator). IsSoundPersistent p (seen c.args.kept.now)) (c.deref.ensures.value ∙ c.in_ok-plant.ensures.points) (c.is_sound.ensures.sound c.if-not-is_sound.false)
