use Rattle.std.proofs.Common.{◌≡◌, ℕ, ◌+◌, false, [], ◌∷◌, ◌++◌, List, length, min, refl, ap, ◌∙◌, length-append}
use Rattle.boss_model.specs.declared.command.Command.{Command}
use Rattle.boss_model.specs.declared.event.Effect.{Effect}
use Rattle.boss_model.specs.declared.event.Effect.TheVariants.{Unchanged}
use Rattle.boss_model.specs.declared.event.Event.{Event}
use Rattle.boss_model.specs.Effects.{event_of}
use Rattle.boss_model.specs.Limits.{last_number}
use Rattle.def_history.specs.declared.entry.Entry.{Entry}
use Rattle.def_history.specs.declared.entry.Entry.TheVariants.{Did}
use Rattle.def_history.specs.declared.outcome.Outcome.{Outcome}
use Rattle.def_history.specs.declared.outcome.Outcome.TheVariants.{Done, Stopped, DiskFault, NoMemory, Denied}
use Rattle.def_history.specs.History.{events, if_event, MayCall}
use Rattle.def_history.specs.Made.{made_by}
use Rattle.boss_engine.specs.Deeds.{CameTo}
use Rattle.boss_shared.specs.Keeping.{Keeps}
use Rattle.boss_memory_keeper.specs.declared.unkept.Unkept.{Unkept}
use Rattle.boss_memory_keeper.proofs.Keepers.{done_keeps}
use Rattle.boss_memory_keeper.proofs.Steps.{count_more}
use Rattle.boss_memory_keeper.proofs.unkept.UnkeptKeeper.apply.Goals as goal

Kept : Unkept → Unkept → List Entry → Type 0
Kept = Keeps (λ keeper. keeper.engine.plant) (λ keeper. keeper.engine.state) (λ keeper. false) (λ keeper. 0)
    (λ keeper first second. Unit {0}) (λ old new first second. Unit {0}) (λ keeper events. keeper.events ≡ min (length events) last_number)

came_keeps : (old new : Unkept) (session : ℕ) (command : Command) (moment : ℕ) (did : Effect) (outcome : Outcome) → MayCall old.engine.plant (command, moment) →
    new.engine.plant ≡ old.engine.plant → CameTo session command moment old.engine new.engine Unchanged did outcome →
    ((c : Command) → new.events ≡ min (old.events + length (if_event (event_of c did) [])) last_number) → Kept old new (made_by session command moment outcome)
unfolding Kept
came_keeps old new session command moment did (Done answer) may plant came counted =
    let made : List Entry = Did session command moment answer ∷ [] in
    let gains : (before : List Event) → old.events ≡ min (length before) last_number → new.events ≡ min (length (before ++ events old.engine.plant made old.engine.state)) last_number =
    λ before had. count_more _ (length before) _ _ _ had
    (counted command ∙ ap (λ e. min (old.events + length (if_event (event_of command e) [])) last_number) came.effect)
    (length-append before (events old.engine.plant made old.engine.state)) in
    done_keeps _ _ _ _ _ _ _ old new made refl refl plant refl refl ((may, came.answer), tt, tt) came.state tt tt gains
came_keeps old new session command moment did NoMemory may plant came counted =
    let gains : (before : List Event) → old.events ≡ min (length before) last_number → new.events ≡ min (length (before ++ [])) last_number =
    λ before had. count_more _ (length before) _ _ _ had
    (counted command ∙ ap (λ e. min (old.events + length (if_event (event_of command e) [])) last_number) came.1) (length-append before []) in
    done_keeps _ _ _ _ _ _ _ old new [] refl refl plant refl refl tt (ap (λ e. e.state) came.0) tt tt gains
came_keeps old new session command moment did Stopped may plant came counted = absurd came
came_keeps old new session command moment did DiskFault may plant came counted = absurd came
came_keeps old new session command moment did (Denied index rule) may plant came counted = absurd came

pub returns-clause-kept : goal.returns-clause-kept
unfolding Kept
returns-clause-kept c =
    came_keeps c.args.self.now (record { engine = c.step_done-outcome.new.self; events = _; few = _ }) c.args.session c.args.command.now c.args.moment
    c.step_done-outcome.new.effect c.step_done-outcome.result c.requires.may c.step_done-outcome.ensures.plant c.step_done-outcome.ensures.came c.events_behind-self.ensures.count
