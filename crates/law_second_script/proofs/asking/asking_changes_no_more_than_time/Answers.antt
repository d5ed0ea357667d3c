use Rattle.law_second_script.proofs.Answered.{at-once, all-rows}
use Rattle.law_second_script.proofs.asking.asking_changes_no_more_than_time.Goals as goal

pub returns : goal.returns
returns c plant s rows sound only = all-rows plant s.persistent sound rows 0 s only (at-once plant s.persistent sound)
