use Rattle.std.proofs.Common.{◌≡◌, drop}
use Rattle.std.specs.List.{list_all}
use Rattle.boss_persistent.specs.Asking.{is_open_on}
use Rattle.boss_persistent.specs.Lasting.{persistent_of}
use Rattle.boss_persistent.proofs.early.are_open_on.Given as goal

-- the parts on the points so far are open
abbrev pub invariant-loop-point : goal.invariant-loop-point
invariant-loop-point l = list_all (is_open_on l.n (persistent_of l.lasting).leases l.parts) l.points ≡ list_all (is_open_on l.n (persistent_of l.lasting).leases l.parts) (drop l.point-index l.points)
