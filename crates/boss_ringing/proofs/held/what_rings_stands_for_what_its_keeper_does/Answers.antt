use Rattle.boss_ringing.proofs.Lifting.{held-back}
use Rattle.boss_ringing.proofs.held.what_rings_stands_for_what_its_keeper_does.Goals as goal

pub returns : goal.returns
returns g c = let k = g.K.Keeper in held-back k.plant k.state k.stopped k.faults k.leaves k.passes k.keeps
