use Rattle.std.proofs.Common.{◌≡◌, IfOk, sym, ap, ◌∙◌, subst}
use Rattle.boss_model.specs.declared.kept.Kept.{Kept}
use Rattle.boss_model.specs.Seen.{seen}
use Rattle.boss_model.specs.State.{Persistent}
use Rattle.boss_persistent.specs.Lasting.{persistent_of}
use Rattle.boss_engine.proofs.Seen.{seen-persistent}
use Rattle.boss_engine.proofs.engine.Engine.keep.Goals as goal

pub returns : goal.returns
returns c =
    let inside = c.self.inside in
    let same : persistent_of inside.machine.lasting ≡ c.args.self.now.state.persistent =
    sym (seen-persistent inside.plant.items inside.machine inside.is_open) ∙ ap (λ running. running.state.persistent) c.self.view_is in
    subst (λ (d : Persistent). IfOk c.keep.result (λ (kept : Kept). seen kept ≡ d)) same c.keep.ensures
