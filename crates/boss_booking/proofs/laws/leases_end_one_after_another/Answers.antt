use Rattle.boss_booking.proofs.EndsBooked.{ends-come}
use Rattle.boss_booking.proofs.laws.leases_end_one_after_another.Goals as goal

pub returns : goal.returns
returns c plant d stages which why n first sound stands passed small reverts is_first = ends-come plant d stages which why n first sound stands passed small reverts is_first
