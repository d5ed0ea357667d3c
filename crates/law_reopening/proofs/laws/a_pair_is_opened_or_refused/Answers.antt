use Rattle.law_reopening.proofs.Apart.{opened_not_refused, opened_one, one_refusal}
use Rattle.law_reopening.proofs.laws.a_pair_is_opened_or_refused.Goals as goal

pub returns-clause-apart : goal.returns-clause-apart
returns-clause-apart c plant digest first second s number why len at some refused = opened_not_refused plant digest len first second s number at why some refused

pub returns-clause-one_engine : goal.returns-clause-one_engine
returns-clause-one_engine c plant digest first second s other number many one two = opened_one plant digest first second s other number many one two

pub returns-clause-one_reason : goal.returns-clause-one_reason
returns-clause-one_reason c plant digest first second why other len here there one two = one_refusal plant digest len first second why other here there one two
