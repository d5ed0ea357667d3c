use Rattle.std.proofs.Common.{arith, ◌≤◌}
use Rattle.boss_model.specs.Reversions.{courses}
use Rattle.boss_model.specs.Time.{tick_to}
use Rattle.law_time.proofs.Coming.{now_after-within}
use Rattle.law_time.proofs.NothingDue.{sound-timed}
use Rattle.law_machine.proofs.Targets.{none-due}
use Rattle.law_time.proofs.TickLaw.{tick_to-tick_to}
use Rattle.law_machine.proofs.bridges.time_may_pass_in_turns.Goals as goal

pub returns-clause-turns : goal.returns-clause-turns
returns-clause-turns c plant d t n sound within later =
    let small : (tick_to t d).now ≤ t = now_after-within t d.now (courses d.pending d.leases) d.txns within in
    tick_to-tick_to d t n n (sound-timed plant d sound) within (omega arith) (omega arith)

pub returns-clause-passed : goal.returns-clause-passed
returns-clause-passed c plant d n sound within = none-due plant d n sound within
