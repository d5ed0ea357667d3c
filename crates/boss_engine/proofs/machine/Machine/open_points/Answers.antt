use Rattle.std.proofs.Common.{length, ap, ◌∙◌}
use Rattle.std.proofs.lemmas.List.{length-map}
use Rattle.boss_persistent.specs.Lasting.{persistent_of}
use Rattle.boss_persistent.proofs.Playable.{all-playable}
use Rattle.boss_engine.proofs.machine.Machine.open_points.Goals as goal

pub start_all-requires-clause-number : goal.start_all-requires-clause-number
start_all-requires-clause-number c = ap length c.requires.places.drivers ∙ length-map c.args.plant.now (λ actuator. actuator.driver)

pub start_all-requires-clause-pending : goal.start_all-requires-clause-pending
start_all-requires-clause-pending c = all-playable c.args.plant.now (persistent_of c.args.self.now.lasting) c.requires.sound
