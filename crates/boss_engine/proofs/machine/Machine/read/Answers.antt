use Rattle.boss_persistent.specs.Lasting.{persistent_of}
use Rattle.boss_persistent.proofs.Playable.{all-playable}
use Rattle.boss_engine.proofs.machine.Machine.read.Goals as goal

pub target_of-requires-clause-pending : goal.target_of-requires-clause-pending
target_of-requires-clause-pending c =
    all-playable c.args.plant.now (persistent_of c.args.self.now.lasting) c.requires.can_run.sound.persistent
