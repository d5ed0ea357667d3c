use Rattle.boss_snapshot.proofs.KeptFronts.{written_front, read_front}
use Rattle.boss_snapshot.proofs.laws.a_kept_state_is_a_front.Goals as goal

pub returns-clause-written : goal.returns-clause-written
returns-clause-written c plant digest generation events first d marked counted few fits sound = written_front plant digest generation events first d marked counted few fits sound

pub returns-clause-read : goal.returns-clause-read
returns-clause-read c plant digest bytes generation events place d kind kept sound = read_front digest bytes generation events place d kept kind plant sound
