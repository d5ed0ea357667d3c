use Rattle.std.proofs.Common.{sym, arith}
use Rattle.boss_json.proofs.Ends.{same_throughout}
use Rattle.boss_json.proofs.member.are_same_throughout.Goals as goal

pub returns : goal.returns
returns c = sym (same_throughout c.args.bytes.now c.args.other.now (omega arith) (λ k within. c.loop-at.invariant k (omega (arith, within))))
