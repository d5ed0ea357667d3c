use Rattle.def_log.proofs.Records.{records-of-log, records-before-damage, log-or-damaged}
use Rattle.def_log.proofs.laws.a_log_has_its_records_alone.Goals as goal

pub returns-clause-log : goal.returns-clause-log
returns-clause-log c front bytes records others one other = records-of-log front bytes records others one other

pub returns-clause-damaged : goal.returns-clause-damaged
returns-clause-damaged c front bytes records others one other = records-before-damage front bytes records others one other

pub returns-clause-apart : goal.returns-clause-apart
returns-clause-apart c front bytes records others log damage = log-or-damaged front bytes records others log damage
