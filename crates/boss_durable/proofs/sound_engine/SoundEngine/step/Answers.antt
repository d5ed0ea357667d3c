use Rattle.std.proofs.Common.{◌≡◌, true, OnErr, sym, subst}
use Rattle.std.proofs.lemmas.Result.{on_err_weaker}
use Rattle.boss_engine.specs.Running.{Running}
use Rattle.boss_model.specs.Plants.{IsPlant}
use Rattle.boss_durable.specs.Begun.{may_want}
use Rattle.boss_durable.specs.Reached.{IsReached}
use Rattle.boss_durable.proofs.Takings.{step_fits, wanting_needs}
use Rattle.boss_durable.proofs.sound_engine.SoundEngine.step.Goals as goal

pub returns-clause-fits : goal.returns-clause-fits
returns-clause-fits c e is =
    let reached : IsReached c.args.self.now = subst IsReached c.self.view_is c.self.invariant in
    step_fits c.args.self.now.plant c.args.self.now.state c.args.session c.args.moment c.args.command.now e reached.whole reached.sound c.requires is

pub returns-clause-wants : goal.returns-clause-wants
returns-clause-wants c =
    let inside = c.self.inside.engine in
    subst (λ (r : Running). OnErr c.step.result (may_want r.state c.args.command.now ≡ true)) c.self.view_is
    (on_err_weaker c.step.result (wanting_needs inside.plant c.args.session c.args.command.now inside.state) c.step.ensures.memory)

pub invariant_of-self : goal.invariant_of-self
invariant_of-self c = record { whole = subst IsPlant (sym c.step.ensures.plant) c.self.invariant.whole; sound = c.step.ensures.sound }
