use Rattle.boss_disk_pair.specs.Rests.{passes, changes}
use Rattle.boss_disk_pair.proofs.Words.{either_way, passes_leaves}
use Rattle.boss_disk_pair.proofs.two_disks.TwoDisks.take_state.Goals as goal

pub returns-clause-passes : goal.returns-clause-passes
unfolding passes changes
returns-clause-passes g c plant d e count at are sound = λ told. (
  either_way c.go_on_behind.result c.go_on_behind.ensures.digest c.go_on_behind.ensures.old_digest,
  c.go_on_behind.ensures.changes plant plant d e count at are sound told,
)

pub returns-clause-leaves : goal.returns-clause-leaves
returns-clause-leaves g c plant d e count at are sound = passes_leaves c.args.self.now _ plant d e (returns-clause-passes g c plant d e count at are sound)
