use Rattle.boss_snapshot.proofs.Again.{written_kind, written_kept, kept_alone, kept_taken}
use Rattle.boss_snapshot.proofs.laws.a_written_state_is_read_again.Goals as goal

pub returns-clause-kind : goal.returns-clause-kind
returns-clause-kind c digest bytes generation events place d window len small written = written_kind digest bytes generation events d len written.is small

pub returns-clause-found : goal.returns-clause-found
returns-clause-found c digest bytes generation events place d window len small few fits written =
    written_kept digest bytes generation events d len written.is small few fits place written.gate

pub returns-clause-alone : goal.returns-clause-alone
returns-clause-alone c digest bytes d other events many place gate kept next = kept_alone digest bytes d events place kept other many gate next

pub returns-clause-taken : goal.returns-clause-taken
returns-clause-taken c digest bytes d events place refusal kept why = kept_taken digest bytes d events place kept refusal why
