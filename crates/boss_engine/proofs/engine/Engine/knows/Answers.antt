use Rattle.std.proofs.Common.{is_some, sym, ap, ◌∙◌}
use Rattle.boss_model.specs.Processes.{process_named}
use Rattle.boss_engine.proofs.Seen.{seen-persistent}
use Rattle.boss_engine.proofs.engine.Engine.knows.Goals as goal

pub returns : goal.returns
returns c =
    let inside = c.self.inside in
    c.is_some.ensures ∙ ap is_some c.named.ensures ∙ ap (λ d. is_some (process_named d.processes c.args.name.now)) (sym (seen-persistent inside.plant.items inside.machine inside.is_open))
    ∙ ap (λ running. is_some (process_named running.state.persistent.processes c.args.name.now)) c.self.view_is
