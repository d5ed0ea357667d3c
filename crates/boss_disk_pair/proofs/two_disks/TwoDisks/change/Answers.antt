use Rattle.boss_disk_pair.specs.Rests.{rests}
use Rattle.boss_disk_pair.proofs.two_disks.TwoDisks.change.Goals as goal

pub returns-clause-rests : goal.returns-clause-rests
unfolding rests
returns-clause-rests g c plant new_plant d e count at are sound =
    c.go_on_behind.ensures.rests plant new_plant d e count count at are sound (λ told. (at told).counts)
