use Rattle.boss_persistent.specs.Lasting.{persistent_of}
use Rattle.boss_persistent.proofs.Playable.{all-playable}
use Rattle.boss_engine.proofs.machine.Machine.answer.Goals as goal

pub slots_of-requires-clause-pending : goal.slots_of-requires-clause-pending
slots_of-requires-clause-pending c = all-playable c.requires.0 (persistent_of c.args.self.now.lasting) c.requires.1.sound
