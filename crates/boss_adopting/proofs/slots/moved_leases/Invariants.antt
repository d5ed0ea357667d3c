use Rattle.std.proofs.Common.{◌≡◌, map, take}
use Rattle.law_adoption.specs.Adopted.{moved_lease}
use Rattle.boss_adopting.specs.Places.{places_of}
use Rattle.boss_adopting.proofs.slots.moved_leases.Given as goal

abbrev pub invariant-loop-lease : goal.invariant-loop-lease
invariant-loop-lease l = l.moved.items ≡ map (moved_lease (places_of l.numbering)) (take l.lease-index l.leases)
