use Rattle.std.proofs.Common.{refl, arith}
use Rattle.boss_notices.proofs.Numbering.{posted_numbered}
use Rattle.boss_notices.proofs.ring.Ring.post.Goals as goal

pub invariant_of-self : goal.invariant_of-self
invariant_of-self c =
    let numbered = posted_numbered c.self.inside.count c.self.inside.kept.capacity _ _ c.self.invariant.1 c.self.invariant.3 refl in
    rw c.push_back.ensures.items (c.self.invariant.0, numbered.0, omega arith, numbered.1)
