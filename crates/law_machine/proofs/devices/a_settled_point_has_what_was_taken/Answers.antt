use Rattle.law_machine.proofs.Heard.{settled-run, told}
use Rattle.law_machine.proofs.devices.a_settled_point_has_what_was_taken.Goals as goal

pub returns-clause-settled : goal.returns-clause-settled
returns-clause-settled c plant d calls point known settled = settled-run plant d calls point known settled

pub returns-clause-told : goal.returns-clause-told
returns-clause-told c point command given heard = told point command given heard
