use Rattle.std.proofs.Common.{◌≡◌, drop}
use Rattle.std.specs.List.{list_all}
use Rattle.law_effects.specs.Early.{open_still}
use Rattle.boss_persistent.specs.Lasting.{persistent_of}
use Rattle.boss_persistent.proofs.early.are_open.Given as goal

-- the parts so far decide nothing
abbrev pub invariant-loop-part : goal.invariant-loop-part
invariant-loop-part l = list_all (open_still l.n (persistent_of l.lasting).leases) l.parts ≡ list_all (open_still l.n (persistent_of l.lasting).leases) (drop l.part-index l.parts)
