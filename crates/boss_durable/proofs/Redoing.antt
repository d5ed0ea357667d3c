-- What an engine owes that does an event again, or is put back.
use Rattle.std.proofs.Common.{◌≡◌, Bool, true, false, List, Option, Some, None, refl, sym, ap, ◌∙◌}
use Rattle.std.specs.Prelude.{is_some, Result, Ok, Err, IfOk, OnOk}
use Rattle.std.specs.Option.{option_map_or}
use Rattle.boss_bounds.specs.Bounds.{is_modest}
use Rattle.boss_bounds.proofs.Spellings.{effective-modest}
use Rattle.boss_engine.specs.Running.{Running}
use Rattle.boss_model.specs.Acts.{replay}
use Rattle.boss_model.specs.declared.event.Event.{Event}
use Rattle.boss_model.specs.declared.state.Actuator.{Actuator}
use Rattle.boss_model.specs.Plants.{IsPlant}
use Rattle.boss_model.specs.Settle.{opened}
use Rattle.boss_model.specs.Sound.{IsSoundPersistent}
use Rattle.boss_model.specs.State.{Persistent, State}
use Rattle.def_bytes.specs.States.{reply, state}
use Rattle.law_spelling.proofs.OfStates.{reply-fits, state-fits}
use Rattle.law_spelling.proofs.Stored.{storable}
use Rattle.law_spelling.specs.Ranges.{IsStoredProcess}
use Rattle.law_time.proofs.Orders.{each-map}
use Rattle.boss_durable.specs.Redone.{Redoes}

-- what is sound has a spelling
pub sound_fits : (plant : List Actuator) (d : Persistent) → IsPlant plant → IsSoundPersistent plant d → (state 2).fits d ≡ true
sound_fits plant d whole sound =
    let stored = storable plant whole d sound in
    state-fits 2 d stored (each-map IsStoredProcess (λ p. (reply 2).fits p.reply ≡ true) (λ p is. reply-fits p.reply is.reply) d.processes stored.processes)

-- an event out of bounds is not effective
pub immodest : (plant : List Actuator) (e : Event) (d : Persistent) → IsSoundPersistent plant d → is_modest e.act ≡ false → replay plant e d ≡ None
immodest plant e d sound out = by (replay plant e d) refl
  where
    by : (found : Option Persistent) → replay plant e d ≡ found → found ≡ None
    by None is = refl
    by (Some to) is = absurd (let clash : true ≡ false = sym (effective-modest plant e d to sound is) ∙ out in cc)

pub redone : {E : Type 0} (e : Event) (old new : Running) (result : Result Bool E) →
    IfOk result (λ done. done ≡ is_some (replay old.plant e old.state.persistent)) →
    OnOk result (new.state ≡ option_map_or (opened old.plant) (replay old.plant e old.state.persistent) old.state) →
    new.plant ≡ old.plant → IfOk result (Redoes e old new)
redone e old new (Err why) is state same = tt
redone e old new (Ok done) is state same = by (replay old.plant e old.state.persistent) done refl is state
  where
    by : (found : Option Persistent) (done : Bool) → replay old.plant e old.state.persistent ≡ found → done ≡ is_some found →
        new.state ≡ option_map_or (opened old.plant) found old.state → Redoes e old new done
    by None true found is state = absurd cc
    by None false found is state = (found, λ i. record { plant = same i; state = state i })
    by (Some to) false found is state = absurd cc
    by (Some to) true found is state =
        let lasts : new.state.persistent ≡ to = ap (λ (s : State). s.persistent) state in
        (found ∙ ap Some (sym lasts), λ i. record { plant = same i; state = (state ∙ ap (opened old.plant) (sym lasts)) i })
