use Rattle.boss_gate.proofs.Allowing.{judged_attach}
use Rattle.boss_gate.proofs.laws.an_attach_was_admitted.Goals as goal

pub returns : goal.returns
returns c = judged_attach
