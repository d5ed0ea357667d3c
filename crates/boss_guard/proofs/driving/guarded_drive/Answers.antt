use Rattle.boss_outside_server.specs.Pauses.{drive_pause, held_pause}
use Rattle.def_lanes.proofs.WaitLemmas.{none-within}
use Rattle.boss_guard.proofs.driving.guarded_drive.Goals as goal

-- without memory no turn was taken
pub returns-in-Err-clause-waited : goal.returns-in-Err-clause-waited
returns-in-Err-clause-waited g c = λ tells. none-within held_pause drive_pause (g.W.Waiter.waited c.args.waiter.now)
