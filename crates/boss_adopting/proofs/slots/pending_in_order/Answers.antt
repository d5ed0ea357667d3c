use Rattle.std.proofs.Common.{map}
use Rattle.boss_model.specs.State.{pending_slot}
use Rattle.law_adoption.specs.Adopted.{moved_pending}
use Rattle.boss_adopting.specs.Places.{places_of}
use Rattle.boss_adopting.proofs.Apart.{rising-apart}
use Rattle.boss_adopting.proofs.slots.pending_in_order.Goals as goal

pub put_pending_in_order-requires : goal.put_pending_in_order-requires
put_pending_in_order-requires c =
    rw c.in_ok-moved.ensures (rising-apart pending_slot (map (moved_pending (places_of c.args.numbering.now)) c.args.pending.now) c.requires)
