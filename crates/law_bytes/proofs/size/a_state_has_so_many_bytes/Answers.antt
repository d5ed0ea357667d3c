use Rattle.law_bytes.proofs.Sizes.{sound-size, some-bytes}
use Rattle.law_bytes.proofs.size.a_state_has_so_many_bytes.Goals as goal

pub returns-clause-most : goal.returns-clause-most
returns-clause-most c version plant d whole sound = sound-size version plant d whole sound

pub returns-clause-some : goal.returns-clause-some
returns-clause-some c version d = some-bytes version d
