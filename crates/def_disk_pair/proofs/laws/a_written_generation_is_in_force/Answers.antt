use Rattle.def_disk_pair.proofs.Disks.{second_written, first_written}
use Rattle.def_disk_pair.proofs.laws.a_written_generation_is_in_force.Goals as goal

pub returns-clause-second : goal.returns-clause-second
returns-clause-second c plant digest front first version generation count d len before is =
    second_written plant digest front first version generation count d len before is

pub returns-clause-first : goal.returns-clause-first
returns-clause-first c plant digest front second version generation count d len g kind small next is =
    first_written plant digest front second version generation count d len g kind small next is
