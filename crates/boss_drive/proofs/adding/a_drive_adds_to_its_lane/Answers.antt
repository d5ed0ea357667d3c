use Rattle.std.proofs.Common.{refl}
use Rattle.boss_lock.specs.Places.{entries_at}
use Rattle.boss_drive.specs.Driving.{Stand, made_by, left_by}
use Rattle.boss_drive.proofs.Laning.{driven-added}
use Rattle.boss_drive.proofs.adding.a_drive_adds_to_its_lane.Goals as goal

pub returns : goal.returns
returns g c plant opening seen mine driver own given given' devices devices' pauses pauses' most end pass is fresh =
    let old : Stand = record { own = own; given = given; whole = g.A.Actuators.whole devices; calls = g.A.Actuators.calls devices } in
    let new : Stand = record { own = entries_at seen mine; given = given'; whole = g.A.Actuators.whole devices'; calls = g.A.Actuators.calls devices' } in (
      (made_by driver is.turns (left_by driver end is.last)).calls,
      (made_by driver is.turns (left_by driver end is.last)).moments,
      driven-added plant opening seen mine driver g.C.Clock.tells g.A.Actuators.tells g.W.Waiter.tells old new pauses pauses' most end pass.legal refl is fresh,
      is.made.wrote,
    )
