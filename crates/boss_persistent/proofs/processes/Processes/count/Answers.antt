use Rattle.std.proofs.Common.{◌≡◌, length, arith}
use Rattle.boss_persistent.proofs.Side.{length-processes_of}
use Rattle.boss_persistent.proofs.processes.Processes.count.Goals as goal

pub returns-clause-number : goal.returns-clause-number
returns-clause-number c =
    let all : length c.args.self.now ≡ length c.self.inside.entries.items = rw (← c.self.view_is) (length-processes_of c.self.inside.entries.items c.self.inside.rings c.self.invariant.0) in
    omega arith

pub returns-clause-few : goal.returns-clause-few
returns-clause-few c = omega (arith, c.self.invariant.0, c.self.invariant.1)
