use Rattle.std.proofs.Common.{◌≡◌, ◌+◌, ◌-◌, length, refl, arith}
use Rattle.boss_notices.proofs.Numbering.{first_number}
use Rattle.boss_notices.proofs.ring.Ring.first.Goals as goal

pub returns-clause-first : goal.returns-clause-first
returns-clause-first c =
    let place : c.self.inside.count - c.len.result + 1 ≡ c.self.inside.count - length c.self.inside.kept.items + 1 = omega arith in
    let first = first_number _ (c.self.inside.count + 1) _ c.self.invariant.3 (omega arith) in
    rw (place, ← c.self.view_is, first) refl
