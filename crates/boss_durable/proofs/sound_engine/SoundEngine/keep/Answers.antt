use Rattle.std.proofs.Common.{◌≡◌, true, ap, ◌∙◌, subst}
use Rattle.std.proofs.lemmas.Result.{IfOk-weaker}
use Rattle.def_bytes.specs.States.{state}
use Rattle.boss_durable.specs.Reached.{IsReached}
use Rattle.boss_durable.proofs.Redoing.{sound_fits}
use Rattle.boss_durable.proofs.sound_engine.SoundEngine.keep.Goals as goal

pub returns-clause-fits : goal.returns-clause-fits
returns-clause-fits c =
    let inside = c.self.inside.engine in
    let fits : (state 2).fits inside.state.persistent ≡ true =
    sound_fits inside.plant inside.state.persistent c.self.invariant.whole c.self.invariant.sound.persistent in
    IfOk-weaker c.keep.result _ _ (λ kept is. ap (λ d. (state 2).fits d) is ∙ fits) c.keep.ensures

pub returns-clause-sound : goal.returns-clause-sound
returns-clause-sound c =
    let reached : IsReached c.args.self.now = subst IsReached c.self.view_is c.self.invariant in
    reached.sound.persistent
