use Rattle.boss_gate.proofs.Allowing.{judged_both, judged_none, judged_one, judged_several, judged_submit}
use Rattle.boss_gate.proofs.laws.a_submit_of_a_holder_was_allowed.Goals as goal

pub returns-clause-nothing : goal.returns-clause-nothing
returns-clause-nothing c = judged_none

pub returns-clause-one : goal.returns-clause-one
returns-clause-one c = judged_one

pub returns-clause-several : goal.returns-clause-several
returns-clause-several c gate gates plant opening seen now mine own session = judged_several gate gates session plant opening seen now mine own

pub returns-clause-both : goal.returns-clause-both
returns-clause-both c = judged_both

pub returns-clause-submit : goal.returns-clause-submit
returns-clause-submit c = judged_submit
