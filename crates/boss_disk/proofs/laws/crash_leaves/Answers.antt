use Rattle.boss_disk.proofs.Crash.{remains, is_image}
use Rattle.boss_disk.proofs.laws.crash_leaves.Goals as goal

pub returns : goal.returns
returns c synced changes bytes = (remains synced changes bytes, is_image synced changes bytes)
