use Rattle.boss_expiry.proofs.Beating.{expired-added}
use Rattle.boss_expiry.proofs.adding.passing_time_adds_to_its_lane.Goals as goal

pub returns : goal.returns
returns g c plant own own' given given' pauses pauses' most end is fresh = expired-added plant g.C.Clock.tells g.W.Waiter.tells own own' given given' pauses pauses' most end is fresh
