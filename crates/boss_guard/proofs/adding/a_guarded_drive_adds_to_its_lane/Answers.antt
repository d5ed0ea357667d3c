use Rattle.std.proofs.Common.{refl}
use Rattle.boss_lock.specs.Places.{entries_at}
use Rattle.boss_drive.specs.Driving.{Stand}
use Rattle.boss_guard.proofs.LaneOfGuards.{guarded_adds}
use Rattle.boss_guard.proofs.adding.a_guarded_drive_adds_to_its_lane.Goals as goal

pub returns : goal.returns
returns g c catalogue opening seen mine driver own given given' devices devices' pauses pauses' most end pass is fresh =
    let old : Stand = record { own = own; given = given; whole = g.A.Actuators.whole devices; calls = g.A.Actuators.calls devices } in
    let new : Stand = record { own = entries_at seen mine; given = given'; whole = g.A.Actuators.whole devices'; calls = g.A.Actuators.calls devices' } in
    guarded_adds catalogue opening seen mine driver g.C.Clock.tells g.A.Actuators.tells g.W.Waiter.tells old new pauses pauses' pass refl fresh most end is
