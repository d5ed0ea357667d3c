use Rattle.boss_pair_find.proofs.Apart.{new_refused, plain_refused, kept_refused, one_reason, new_not_plain, new_not_kept, plain_not_kept, kept_one}
use Rattle.boss_pair_find.proofs.laws.a_pair_is_found_or_refused.Goals as goal

pub returns-clause-new : goal.returns-clause-new
returns-clause-new c digest first second refusal new why = new_refused digest first second refusal new why

pub returns-clause-plain : goal.returns-clause-plain
returns-clause-plain c digest first second refusal plain why = plain_refused digest first second refusal plain why

pub returns-clause-kept : goal.returns-clause-kept
returns-clause-kept c digest first second d events place refusal kept why = kept_refused digest d events place first second refusal kept why

pub returns-clause-one : goal.returns-clause-one
returns-clause-one c digest first second refusal other here there one two = one_reason digest first second refusal other here there one two

pub returns-clause-not_plain : goal.returns-clause-not_plain
returns-clause-not_plain c digest first second new plain = new_not_plain digest first second new plain

pub returns-clause-not_kept : goal.returns-clause-not_kept
returns-clause-not_kept c digest first second d events place new kept = new_not_kept digest first second d events place new kept

pub returns-clause-apart : goal.returns-clause-apart
returns-clause-apart c digest first second d events place plain kept = plain_not_kept digest d events place first second plain kept

pub returns-clause-one_state : goal.returns-clause-one_state
returns-clause-one_state c digest first second d other events many place gate one two = kept_one digest d events place other many gate first second one two
