use Rattle.std.proofs.Common.{sym, ap, ◌∙◌}
use Rattle.boss_engine.proofs.Seen.{seen-persistent}
use Rattle.boss_engine.proofs.engine.Engine.now.Goals as goal

pub returns : goal.returns
returns c =
    let inside = c.self.inside in
    c.now.ensures ∙ ap (λ d. d.now) (sym (seen-persistent inside.plant.items inside.machine inside.is_open)) ∙ ap (λ running. running.state.persistent.now) c.self.view_is
