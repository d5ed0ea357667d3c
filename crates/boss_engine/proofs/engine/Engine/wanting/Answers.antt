use Rattle.std.proofs.Common.{Bool, ◌∙◌, ap, sym}
use Rattle.boss_model.specs.Devices.{wanting}
use Rattle.boss_model.specs.Order.{least}
use Rattle.boss_engine.specs.Inside.{seen_state}
use Rattle.boss_persistent.specs.Lasting.{persistent_of}
use Rattle.boss_engine.specs.Waiting.{drivers_of}
use Rattle.boss_engine.proofs.Seen.{all-drivers}
use Rattle.boss_engine.proofs.Waiting.{wanting-is}
use Rattle.boss_engine.proofs.engine.Engine.wanting.Goals as goal

pub returns-then-self : goal.returns-then-self
returns-then-self c =
    let inside = c.self.inside in
    let machine = inside.machine in
    c.wanting.ensures
    ∙ wanting-is inside.plant.items (persistent_of machine.lasting) machine.attached.items machine.marks (sym c.self.invariant.places.drivers)
    ∙ ap (λ (b : Bool). wanting inside.plant.items (seen_state inside.plant.items machine b)) (sym c.if-self.true)
    ∙ ap (λ running. wanting running.plant running.state) c.self.view_is

pub returns-else-self : goal.returns-else-self
returns-else-self c =
    let inside = c.self.inside in
    let machine = inside.machine in
    c.first_driver.ensures ∙ ap (λ plant. least (λ driver. driver) (drivers_of plant)) c.deref.ensures.value
    ∙ ap (least (λ driver. driver)) (sym (all-drivers inside.plant.items))
    ∙ ap (λ (b : Bool). wanting inside.plant.items (seen_state inside.plant.items machine b)) (sym c.if-self.false)
    ∙ ap (λ running. wanting running.plant running.state) c.self.view_is
