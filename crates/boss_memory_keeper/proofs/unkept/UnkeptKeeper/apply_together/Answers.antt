use Rattle.std.proofs.Common.{◌≡◌, ◌++◌, List, length, min, refl, length-append}
use Rattle.boss_model.specs.declared.event.Event.{Event}
use Rattle.boss_model.specs.Limits.{last_number}
use Rattle.def_history.specs.History.{events}
use Rattle.boss_shared.specs.Together.{made_together}
use Rattle.boss_memory_keeper.proofs.Keepers.{done_keeps}
use Rattle.boss_memory_keeper.proofs.Steps.{count_more}
use Rattle.boss_memory_keeper.proofs.unkept.UnkeptKeeper.apply_together.Goals as goal

pub returns-clause-kept : goal.returns-clause-kept
returns-clause-kept c =
    let step = c.step_together.ensures in
    let made = made_together c.step_together.new.group in
    let gains : (before : List Event) → c.args.self.now.events ≡ min (length before) last_number →
    c.step_together.new.count ≡ min (length (before ++ events c.args.self.now.engine.plant made c.args.self.now.engine.state)) last_number =
    λ before had. count_more _ (length before) _ _ _ had step.count (length-append before (events c.args.self.now.engine.plant made c.args.self.now.engine.state)) in
    done_keeps _ _ _ _ _ _ _ c.args.self.now (record { engine = c.step_together.new.engine; events = c.step_together.new.count; few = _ }) made refl refl step.plant refl
    step.whole step.legal step.state tt tt gains
