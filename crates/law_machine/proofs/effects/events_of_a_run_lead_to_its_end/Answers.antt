use Rattle.law_machine.proofs.Replay.{run-again}
use Rattle.law_machine.proofs.effects.events_of_a_run_lead_to_its_end.Goals as goal

pub returns : goal.returns
returns c plant calls s sound allowed = run-again plant calls s sound allowed
