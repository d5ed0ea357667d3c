use Rattle.std.proofs.Common.{Bool, ◌==◌, ◌∙◌, ap, sym, is_some}
use Rattle.std.specs.Prelude.{find}
use Rattle.std.specs.List.{list_any}
use Rattle.boss_model.specs.Catalogue.{driver_of}
use Rattle.boss_engine.specs.Inside.{seen_state}
use Rattle.boss_persistent.specs.Lasting.{persistent_of}
use Rattle.boss_engine.proofs.Seen.{all-wanted}
use Rattle.boss_engine.proofs.Waiting.{has-want-is}
use Rattle.boss_engine.proofs.engine.Engine.has_want.Goals as goal

pub returns-then-self : goal.returns-then-self
returns-then-self c =
    let inside = c.self.inside in
    let machine = inside.machine in
    c.has_want.ensures
    ∙ has-want-is inside.plant.items (persistent_of machine.lasting) machine.attached.items machine.marks (sym c.self.invariant.places.drivers) c.args.driver
    ∙ ap (λ (b : Bool). is_some (find (λ point. driver_of inside.plant.items point == c.args.driver) (seen_state inside.plant.items machine b).wants)) (sym c.if-self.true)
    ∙ ap (λ running. is_some (find (λ point. driver_of running.plant point == c.args.driver) running.state.wants)) c.self.view_is

pub returns-else-self : goal.returns-else-self
returns-else-self c =
    let inside = c.self.inside in
    let machine = inside.machine in
    c.serves.ensures ∙ ap (λ plant. list_any (λ actuator. actuator.driver == c.args.driver) plant) c.deref.ensures.value
    ∙ all-wanted inside.plant.items c.args.driver
    ∙ ap (λ (b : Bool). is_some (find (λ point. driver_of inside.plant.items point == c.args.driver) (seen_state inside.plant.items machine b).wants)) (sym c.if-self.false)
    ∙ ap (λ running. is_some (find (λ point. driver_of running.plant point == c.args.driver) running.state.wants)) c.self.view_is
