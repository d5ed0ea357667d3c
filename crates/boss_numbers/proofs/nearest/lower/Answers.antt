use Rattle.std.proofs.Common.{◌<◌, arith}
use Rattle.boss_numbers.proofs.Scaling.{below}
use Rattle.boss_numbers.proofs.nearest.lower.Goals as goal

pub overflow_add-e : goal.overflow_add-e
overflow_add-e c =
    let few : c.loop-d.e < 228 = below c.loop-d.d c.args.scaled.e c.args.parts c.loop-d.e (omega arith) (omega arith) (omega arith) c.loop-d.invariant.scale in
    omega arith

pub returns-clause-few : goal.returns-clause-few
returns-clause-few c =
    let few : c.loop-d.e < 228 = below c.loop-d.d c.args.scaled.e c.args.parts c.loop-d.e (omega arith) (omega arith) (omega arith) c.loop-d.invariant.scale in
    omega arith
