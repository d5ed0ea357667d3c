use Rattle.law_records.proofs.Reverting.{row-slots}
use Rattle.law_records.proofs.slots.a_point_is_seen_from_its_slots.Goals as goal

pub returns : goal.returns
returns c plant d test point sound = row-slots plant d sound test point
