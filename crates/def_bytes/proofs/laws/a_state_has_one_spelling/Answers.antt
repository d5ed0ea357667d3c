use Rattle.def_bytes.proofs.Exact.{one-spelling}
use Rattle.def_bytes.specs.States.{state}
use Rattle.def_bytes.proofs.OfStates.{state_spelled}
use Rattle.def_bytes.proofs.laws.a_state_has_one_spelling.Goals as goal

pub returns-clause-exact : goal.returns-clause-exact
returns-clause-exact c version = (state_spelled version).exact

pub returns-clause-short : goal.returns-clause-short
returns-clause-short c version = (state_spelled version).short

pub returns-clause-one : goal.returns-clause-one
returns-clause-one c version x y a b fits others is = one-spelling (state version) (state_spelled version).exact x y a b fits others is
