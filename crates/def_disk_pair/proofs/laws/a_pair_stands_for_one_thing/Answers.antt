use Rattle.def_disk_pair.proofs.Disks.{stands_for_one, opens_to_one, stands_or_damaged, damaged_at_one}
use Rattle.def_disk_pair.proofs.laws.a_pair_stands_for_one_thing.Goals as goal

pub returns-clause-one : goal.returns-clause-one
returns-clause-one c plant digest first second from other before many events others p q =
    stands_for_one plant digest first second from other before many events others p q

pub returns-clause-opens : goal.returns-clause-opens
returns-clause-opens c plant digest first second d other p q = opens_to_one plant digest first second d other p q

pub returns-clause-damaged : goal.returns-clause-damaged
returns-clause-damaged c plant digest first second from before place events p q =
    stands_or_damaged plant digest first second from before place events p q

pub returns-clause-one_place : goal.returns-clause-one_place
returns-clause-one_place c plant digest first second place other p q = damaged_at_one plant digest first second place other p q
