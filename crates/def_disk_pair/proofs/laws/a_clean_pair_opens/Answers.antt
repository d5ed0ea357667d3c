use Rattle.def_disk_pair.proofs.Disks.{clean_opens, clean_to_one}
use Rattle.def_disk_pair.proofs.laws.a_clean_pair_opens.Goals as goal

pub returns-clause-opens : goal.returns-clause-opens
returns-clause-opens c plant digest first second d count p = clean_opens plant digest first second d count p

pub returns-clause-one : goal.returns-clause-one
returns-clause-one c plant digest first second d other count many p q = clean_to_one plant digest first second d other count many p q
