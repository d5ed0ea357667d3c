use Rattle.std.proofs.Common.{◌≡◌, drop}
use Rattle.boss_persistent.proofs.Untils.{earliest, earlier_of}
use Rattle.boss_persistent.proofs.queries.first_until.Given as goal

-- the first moment of those so far, and those that are left
abbrev pub invariant-loop-lease : goal.invariant-loop-lease
invariant-loop-lease l = earliest l.leases ≡ earlier_of l.first (earliest (drop l.lease-index l.leases))
