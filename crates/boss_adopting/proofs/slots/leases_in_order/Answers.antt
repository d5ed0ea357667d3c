use Rattle.std.proofs.Common.{map}
use Rattle.boss_model.specs.State.{lease_slot}
use Rattle.law_adoption.specs.Adopted.{moved_lease}
use Rattle.boss_adopting.specs.Places.{places_of}
use Rattle.boss_adopting.proofs.Apart.{rising-apart}
use Rattle.boss_adopting.proofs.slots.leases_in_order.Goals as goal

pub put_leases_in_order-requires : goal.put_leases_in_order-requires
put_leases_in_order-requires c =
    rw c.in_ok-moved.ensures (rising-apart lease_slot (map (moved_lease (places_of c.args.numbering.now)) c.args.leases.now) c.requires)
