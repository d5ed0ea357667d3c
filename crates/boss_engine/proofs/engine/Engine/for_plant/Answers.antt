use Rattle.std.proofs.Common.{◌≡◌, ap, sym, ◌∙◌, subst}
use Rattle.boss_model.specs.Settle.{first_state}
use Rattle.boss_model.specs.Sound.{IsSound}
use Rattle.boss_model.specs.State.{first_persistent}
use Rattle.law_soundness.proofs.Opened.{first-sound, opened-sound}
use Rattle.boss_engine.specs.Inside.{HasPlaces, state_of}
use Rattle.boss_engine.proofs.engine.Engine.for_plant.Goals as goal

pub invariant_of-result : goal.invariant_of-result
invariant_of-result c =
    let plant = c.args.plant.items in
    let machine = c.in_ok-machine.machine in
    let is : state_of machine ≡ first_state plant = c.in_ok-machine.ensures.state ∙ ap first_state c.deref.ensures.value in
    record {
      sound = subst (IsSound plant) (sym is) (opened-sound plant first_persistent (first-sound plant));
      places = subst (λ p. HasPlaces p machine) c.deref.ensures.value c.in_ok-machine.ensures.ready;
    }
