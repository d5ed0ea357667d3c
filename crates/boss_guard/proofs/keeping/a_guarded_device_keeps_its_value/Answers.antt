use Rattle.boss_guard.proofs.Writes.{device_keeps}
use Rattle.boss_guard.proofs.keeping.a_guarded_device_keeps_its_value.Goals as goal

pub returns : goal.returns
returns g c catalogue driver calls pauses course entries point told is found = device_keeps catalogue driver calls g.W.Waiter.tells pauses course entries point told is found
