use Rattle.std.proofs.Common.{IsTrue}
use Rattle.boss_disk.proofs.Runs.{since_moment}
use Rattle.boss_disk.proofs.laws.crash_comes_at_any_call.Goals as goal

pub returns : goal.returns
returns c passes old new run bytes left = since_moment (λ image. IsTrue (passes image)) old new run bytes left
