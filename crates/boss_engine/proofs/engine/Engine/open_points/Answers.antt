use Rattle.std.proofs.Common.{◌≡◌, List, sym, subst, ap, ◌∙◌}
use Rattle.boss_model.specs.declared.state.Actuator.{Actuator}
use Rattle.boss_model.specs.Settle.{opened}
use Rattle.boss_model.specs.Sound.{IsSound}
use Rattle.law_soundness.proofs.Opened.{opened-sound}
use Rattle.boss_engine.specs.Inside.{CanAct, HasPlaces, state_of}
use Rattle.boss_persistent.specs.Lasting.{persistent_of}
use Rattle.boss_engine.proofs.Seen.{seen-act, seen-persistent, seen-sound}
use Rattle.boss_engine.proofs.engine.Engine.open_points.Goals as goal

pub open_points-requires : goal.open_points-requires
open_points-requires c =
    let inside = c.self.inside in
    subst (λ (plant : List Actuator). CanAct plant inside.machine) (sym c.deref.ensures.value) (seen-act inside.plant.items inside.machine inside.is_open c.self.invariant.sound c.self.invariant.places)

pub invariant_of-self : goal.invariant_of-self
invariant_of-self c =
    let inside = c.self.inside in
    let plant = inside.plant.items in
    let state : state_of c.open_points.new.self ≡ opened plant (persistent_of inside.machine.lasting) =
    c.open_points.ensures.state ∙ ap (λ (p : List Actuator). opened p (persistent_of inside.machine.lasting)) c.deref.ensures.value in
    record {
      sound = subst (IsSound plant) (sym state) (opened-sound plant (persistent_of inside.machine.lasting) (seen-sound plant inside.machine inside.is_open c.self.invariant.sound));
      places = subst (λ (p : List Actuator). HasPlaces p c.open_points.new.self) c.deref.ensures.value c.open_points.ensures.places;
    }

pub returns-clause-state : goal.returns-clause-state
returns-clause-state c =
    let inside = c.self.inside in
    c.open_points.ensures.state ∙ ap (λ (p : List Actuator). opened p (persistent_of inside.machine.lasting)) c.deref.ensures.value
    ∙ ap (opened inside.plant.items) (sym (seen-persistent inside.plant.items inside.machine inside.is_open)) ∙ ap (λ r. opened r.plant r.state.persistent) c.self.view_is

pub returns-clause-sound : goal.returns-clause-sound
returns-clause-sound c =
    let inside = c.self.inside in
    let plant = inside.plant.items in
    let state : state_of c.open_points.new.self ≡ opened plant (persistent_of inside.machine.lasting) =
    c.open_points.ensures.state ∙ ap (λ (p : List Actuator). opened p (persistent_of inside.machine.lasting)) c.deref.ensures.value in
    subst (IsSound plant) (sym state) (opened-sound plant (persistent_of inside.machine.lasting) (seen-sound plant inside.machine inside.is_open c.self.invariant.sound))
