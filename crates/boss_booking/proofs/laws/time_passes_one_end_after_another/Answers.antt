use Rattle.boss_booking.proofs.DueBooked.{due-comes}
use Rattle.boss_booking.proofs.laws.time_passes_one_end_after_another.Goals as goal

pub returns : goal.returns
returns c plant d stages n sound stands reached small = due-comes plant d stages n sound stands reached small
