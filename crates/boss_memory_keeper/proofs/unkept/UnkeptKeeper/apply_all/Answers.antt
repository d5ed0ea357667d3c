use Rattle.std.proofs.Common.{◌≡◌, [], ◌++◌, List, length, min, refl, sym, ap, ◌∙◌, length-append}
use Rattle.boss_model.specs.declared.event.Event.{Event}
use Rattle.boss_model.specs.Limits.{last_number}
use Rattle.def_history.specs.History.{events}
use Rattle.def_history.specs.Made.{done_by, made_by_all}
use Rattle.boss_memory_keeper.proofs.Keepers.{done_keeps, made_fine}
use Rattle.boss_memory_keeper.proofs.Steps.{count_more, done_whole}
use Rattle.boss_memory_keeper.proofs.unkept.UnkeptKeeper.apply_all.Goals as goal

pub returns-clause-kept : goal.returns-clause-kept
returns-clause-kept c =
    let step = c.step_all.ensures in
    let done = c.slice.result.now in
    let made = done_by c.args.session done c.step_all.new.answers.items in
    let is = ap (λ calls. made_by_all [] c.args.session calls c.step_all.new.answers.items c.step_all.result.rest) (sym c.slice.ensures)
    ∙ made_fine c.args.session done c.step_all.new.answers.items c.step_all.result.rest step.no_fault in
    let gains : (before : List Event) → c.args.self.now.events ≡ min (length before) last_number →
    c.step_all.new.count ≡ min (length (before ++ events c.args.self.now.engine.plant made c.args.self.now.engine.state)) last_number =
    λ before had. count_more _ (length before) _ _ _ had step.count (length-append before (events c.args.self.now.engine.plant made c.args.self.now.engine.state)) in
    let kept = done_keeps _ _ _ _ _ _ _ c.args.self.now (record { engine = c.step_all.new.engine; events = c.step_all.new.count; few = _ }) made refl refl step.plant refl
    (done_whole c.args.session done c.step_all.new.answers.items) step.legal step.state tt tt gains in
    rw is kept
