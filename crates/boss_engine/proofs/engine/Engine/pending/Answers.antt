use Rattle.std.proofs.Common.{length, sym, ap, ◌∙◌}
use Rattle.boss_engine.proofs.Seen.{seen-persistent}
use Rattle.boss_engine.proofs.engine.Engine.pending.Goals as goal

pub returns : goal.returns
returns c =
    let inside = c.self.inside in
    c.pending.ensures ∙ ap (λ d. length d.pending) (sym (seen-persistent inside.plant.items inside.machine inside.is_open)) ∙ ap (λ running. length running.state.persistent.pending) c.self.view_is
