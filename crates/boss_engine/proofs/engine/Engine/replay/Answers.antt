use Rattle.std.proofs.Common.{◌≡◌, List, is_some, sym, subst, ap, ap₂, ◌∙◌}
use Rattle.std.specs.Prelude.{unwrap_or}
use Rattle.std.specs.Option.{option_map_or}
use Rattle.boss_model.specs.declared.state.Actuator.{Actuator}
use Rattle.boss_model.specs.Acts.{replay}
use Rattle.boss_model.specs.Settle.{opened}
use Rattle.boss_model.specs.Sound.{IsSound}
use Rattle.boss_model.specs.State.{Persistent}
use Rattle.boss_engine.specs.Inside.{CanAct, seen_state}
use Rattle.boss_persistent.specs.Lasting.{persistent_of}
use Rattle.boss_engine.proofs.Seen.{seen-act, seen-again, seen-persistent, seen-still}
use Rattle.boss_engine.proofs.engine.Engine.replay.Goals as goal

pub replay-requires-clause-can_act : goal.replay-requires-clause-can_act
replay-requires-clause-can_act c =
    let inside = c.self.inside in
    subst (λ (plant : List Actuator). CanAct plant inside.machine) (sym c.deref.ensures.value) (seen-act inside.plant.items inside.machine inside.is_open c.self.invariant.sound c.self.invariant.places)

pub invariant_of-self-2 : goal.invariant_of-self-2
invariant_of-self-2 c =
    let inside = c.self.inside in
    let plant = inside.plant.items in
    let event = c.args.event.now in
    let old = inside.machine in
    let new = c.replay.new.self in
    let d = persistent_of old.lasting in
    let done = replay plant event d in
    let is : c.in_ok-effective.effective ≡ is_some done = c.in_ok-effective.ensures.effective ∙ ap (λ (p : List Actuator). is_some (replay p event d)) c.deref.ensures.value in
    let after : persistent_of new.lasting ≡ unwrap_or done d = c.in_ok-effective.ensures.after ∙ ap (λ (p : List Actuator). unwrap_or (replay p event d) d) c.deref.ensures.value in
    let can : CanAct plant new = subst (λ (p : List Actuator). CanAct p new) c.deref.ensures.value c.in_ok-effective.ensures.can_act in
    record {
      sound = subst (λ open_now. IsSound plant (seen_state plant new open_now)) (sym c.stays_open-self-inside.ensures)
          (seen-still plant old new c.in_ok-effective.ensures.others.0 c.in_ok-effective.ensures.others.1 inside.is_open c.in_ok-effective.effective done is after can.sound c.self.invariant.sound);
      places = can.places;
    }

pub returns-clause-effective : goal.returns-clause-effective
returns-clause-effective c =
    let inside = c.self.inside in
    let event = c.args.event.now in
    let plant : c.deref.result.now ≡ c.args.self.now.plant = c.deref.ensures.value ∙ ap (λ r. r.plant) c.self.view_is in
    let d : persistent_of inside.machine.lasting ≡ c.args.self.now.state.persistent =
    sym (seen-persistent inside.plant.items inside.machine inside.is_open) ∙ ap (λ r. r.state.persistent) c.self.view_is in
    c.in_ok-effective.ensures.effective ∙ ap₂ (λ (p : List Actuator) (e : Persistent). is_some (replay p event e)) plant d

pub returns-clause-state : goal.returns-clause-state
returns-clause-state c =
    let inside = c.self.inside in
    let plant = inside.plant.items in
    let event = c.args.event.now in
    let old = inside.machine in
    let new = c.replay.new.self in
    let d = persistent_of old.lasting in
    let done = replay plant event d in
    let is : c.in_ok-effective.effective ≡ is_some done = c.in_ok-effective.ensures.effective ∙ ap (λ (p : List Actuator). is_some (replay p event d)) c.deref.ensures.value in
    let after : persistent_of new.lasting ≡ unwrap_or done d = c.in_ok-effective.ensures.after ∙ ap (λ (p : List Actuator). unwrap_or (replay p event d) d) c.deref.ensures.value in
    let dd : d ≡ c.args.self.now.state.persistent = sym (seen-persistent plant old inside.is_open) ∙ ap (λ r. r.state.persistent) c.self.view_is in
    ap (seen_state plant new) c.stays_open-self-inside.ensures
    ∙ seen-again plant old new c.in_ok-effective.ensures.others.0 c.in_ok-effective.ensures.others.1 inside.is_open c.in_ok-effective.effective done is after
    ∙ (λ i. option_map_or (opened ((ap (λ r. r.plant) c.self.view_is) i)) (replay ((ap (λ r. r.plant) c.self.view_is) i) event (dd i)) ((ap (λ r. r.state) c.self.view_is) i))

pub returns-clause-sound : goal.returns-clause-sound
returns-clause-sound c =
    let inside = c.self.inside in
    let plant = inside.plant.items in
    let event = c.args.event.now in
    let old = inside.machine in
    let new = c.replay.new.self in
    let d = persistent_of old.lasting in
    let done = replay plant event d in
    let is : c.in_ok-effective.effective ≡ is_some done = c.in_ok-effective.ensures.effective ∙ ap (λ (p : List Actuator). is_some (replay p event d)) c.deref.ensures.value in
    let after : persistent_of new.lasting ≡ unwrap_or done d = c.in_ok-effective.ensures.after ∙ ap (λ (p : List Actuator). unwrap_or (replay p event d) d) c.deref.ensures.value in
    let can : CanAct plant new = subst (λ (p : List Actuator). CanAct p new) c.deref.ensures.value c.in_ok-effective.ensures.can_act in
    subst (λ open_now. IsSound plant (seen_state plant new open_now)) (sym c.stays_open-self-inside.ensures)
    (seen-still plant old new c.in_ok-effective.ensures.others.0 c.in_ok-effective.ensures.others.1 inside.is_open c.in_ok-effective.effective done is after can.sound c.self.invariant.sound)
