use Rattle.std.proofs.Common.{◌<◌, ◌^◌, ◌*◌, arith}
use Rattle.boss_numbers.proofs.Scaling.{raised_on, above}
use Rattle.boss_numbers.proofs.nearest.raise.Goals as goal

pub loop-n-preserved : goal.loop-n-preserved
loop-n-preserved c =
    let left : 0 < c.loop-n.e = above c.loop-n.n c.loop-n.e c.args.n (omega arith) (omega arith) c.loop-n.invariant.same in
    record {
      same = raised_on c.loop-n.n c.loop-n.e (c.args.n * 2 ^ 149) left c.loop-n.invariant.same;
      some = omega arith;
      short = omega arith;
      few = omega arith;
    }
