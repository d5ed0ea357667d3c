use Rattle.std.proofs.Common.{refl, sym, ◌∙◌, subst}
use Rattle.std.specs.Prelude.{IfOk}
use Rattle.boss_bounds.proofs.Spellings.{event-spelled}
use Rattle.boss_engine.specs.Running.{Running}
use Rattle.boss_model.specs.Plants.{IsPlant}
use Rattle.boss_durable.specs.Redone.{Redoes}
use Rattle.boss_durable.proofs.Redoing.{immodest, redone}
use Rattle.boss_durable.proofs.sound_engine.SoundEngine.replay.Goals as goal

pub replay-requires : goal.replay-requires
replay-requires c = event-spelled c.args.event.now c.requires (sym c.is_modest.ensures ∙ c.if-not-is_modest.false)

pub returns-then-not-is_modest-clause-redoes : goal.returns-then-not-is_modest-clause-redoes
returns-then-not-is_modest-clause-redoes c = (
  immodest c.args.self.now.plant c.args.event.now c.args.self.now.state.persistent c.engine.ensures.reached.sound.persistent
      (sym c.is_modest.ensures ∙ c.if-not-is_modest.true),
  refl,
)

pub returns-clause-redoes : goal.returns-clause-redoes
returns-clause-redoes c =
    subst (λ (r : Running). IfOk c.replay.result (Redoes c.args.event.now r c.replay.new.self)) c.self.view_is
    (redone c.args.event.now c.self.inside.engine c.replay.new.self c.replay.result c.replay.ensures.effective c.replay.ensures.state c.replay.ensures.plant)

pub invariant_of-self : goal.invariant_of-self
invariant_of-self c = record { whole = subst IsPlant (sym c.replay.ensures.plant) c.self.invariant.whole; sound = c.replay.ensures.sound }
