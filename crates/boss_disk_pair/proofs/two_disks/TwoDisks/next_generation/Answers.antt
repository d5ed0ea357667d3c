use Rattle.boss_disk_pair.specs.Rests.{rests}
use Rattle.boss_disk_pair.proofs.Words.{either_way}
use Rattle.boss_disk_pair.proofs.two_disks.TwoDisks.next_generation.Goals as goal

pub returns-clause-rests : goal.returns-clause-rests
unfolding rests
returns-clause-rests g c plant d count at are sound =
    c.take_state.ensures.rests plant d d count count at are sound (λ told. (at told).counts)

pub returns-clause-events : goal.returns-clause-events
returns-clause-events g c = either_way c.take_state.result c.take_state.ensures.events c.take_state.ensures.old_events
