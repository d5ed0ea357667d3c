-- The events of steps, and how many bytes they have.
use Rattle.std.proofs.Common.{◌≡◌, true, ◌*◌, ◌≤◌, List, [], ◌∷◌, length, Option, Some, None, refl, sym, ap, arith, length-append}
use Rattle.std.specs.List.{AllByRecursion}
use Rattle.def_bytes.specs.Batches.{batch_text}
use Rattle.def_bytes.specs.Events.{event}
use Rattle.def_bytes.proofs.OfEvents.{event_spelled}
use Rattle.def_history.specs.History.{if_event}
use Rattle.boss_model.specs.declared.command.Command.{Command}
use Rattle.boss_model.specs.declared.event.Effect.{Effect}
use Rattle.boss_model.specs.declared.event.Effect.TheVariants as effect
use Rattle.boss_model.specs.declared.event.Event.{Event}
use Rattle.boss_model.specs.declared.state.Actuator.{Actuator}
use Rattle.boss_model.specs.Acts.{replay}
use Rattle.boss_model.specs.Effects.{event_of}
use Rattle.boss_model.specs.Run.{replay_all}
use Rattle.boss_model.specs.State.{Persistent}

-- ---- at most one event a step

pub no_event : (command : Command) (does : Effect) → event_of command does ≡ None → does ≡ effect.Unchanged
no_event command effect.Unchanged none = refl
no_event command (effect.Tick moment) none = absurd cc
no_event command (effect.Whole moment owner) none = absurd cc

pub some_event : (command : Command) (does : Effect) → (does ≡ effect.Unchanged → ⊥) → (e : Event) × (event_of command does ≡ Some e)
some_event command effect.Unchanged changed = absurd (changed refl)
some_event command (effect.Tick moment) changed = (_, refl)
some_event command (effect.Whole moment owner) changed = (_, refl)

pub one_at_most : (found : Option Event) → length (if_event found []) ≤ 1
one_at_most None = omega arith
one_at_most (Some e) = omega arith

pub each_fits : (found : Option Event) → ((e : Event) → found ≡ Some e → event.fits e ≡ true) → AllByRecursion (λ e. event.fits e ≡ true) (if_event found [])
each_fits None fits = tt
each_fits (Some e) fits = (fits e refl, tt)

pub leads_there : (plant : List Actuator) (d to : Persistent) (found : Option Event) → (found ≡ None → to ≡ d) →
    ((e : Event) → found ≡ Some e → replay plant e d ≡ Some to) → replay_all plant d (if_event found []) ≡ Some to
leads_there plant d to None still again = ap Some (sym (still refl))
leads_there plant d to (Some e) still again = again e refl

-- ---- bytes

pub events_short : (events : List Event) → AllByRecursion (λ e. event.fits e ≡ true) events → length (batch_text events) ≤ 3669 * length events
events_short [] fit = omega arith
events_short (e ∷ events) fit =
    let one : length (event.text e) ≤ 3669 = event_spelled.short.short e fit.0 in
    omega (arith, length-append (event.text e) (batch_text events), one, events_short events fit.1)

pub no_bytes : (events : List Event) → AllByRecursion (λ e. event.fits e ≡ true) events → batch_text events ≡ [] → events ≡ []
no_bytes [] fit none = refl
no_bytes (e ∷ events) fit none = absurd cc
