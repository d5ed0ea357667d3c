use Rattle.std.proofs.Common.{refl}
use Rattle.boss_disk_pair.specs.Images.{OpensToOne}
use Rattle.boss_disk_pair.specs.Rests.{rests, passes}
use Rattle.boss_disk_pair.proofs.Confirms.{confirmed_rests, confirming_leaves, synced_run}
use Rattle.boss_disk_pair.proofs.Orders.{one_moves}
use Rattle.boss_disk_pair.proofs.Words.{passes_leaves}
use Rattle.boss_disk_pair.proofs.two_disks.TwoDisks.confirm.Goals as goal

pub returns-in-Ok-clause-rests : goal.returns-in-Ok-clause-rests
unfolding rests
returns-in-Ok-clause-rests g c plant d count at = λ told.
    confirmed_rests _ _ _ _ _ _ _ _ _ _ _ _ _ _ _ (at told) _ _ _ _ c.confirm.ensures.version c.confirm.ensures.place (c.confirm.ensures.reads told)
    (c.in-Ok.ensures.windows told).done.window

pub returns-in-Ok-clause-passes : goal.returns-in-Ok-clause-passes
unfolding rests passes
returns-in-Ok-clause-passes g c plant d count at = λ told. (
  refl,
  one_moves (OpensToOne plant c.args.self.now.digest d d) _ c.args.self.now.second _ _ _ (confirming_leaves _ _ _ _ _ _ _ _ _ _ _ _ _ _ _ (at told))
      (synced_run _ _ _ _ (at told).log.synced (c.confirm.ensures.windows told)),
)

pub returns-in-Ok-clause-leaves : goal.returns-in-Ok-clause-leaves
returns-in-Ok-clause-leaves g c plant d count at = passes_leaves c.args.self.now _ plant d d (returns-in-Ok-clause-passes g c plant d count at)

pub returns-in-Err-clause-passes : goal.returns-in-Err-clause-passes
unfolding rests passes
returns-in-Err-clause-passes g c plant d count at = λ told. (
  refl,
  one_moves (OpensToOne plant c.args.self.now.digest d d) _ c.args.self.now.second _ _ _ (confirming_leaves _ _ _ _ _ _ _ _ _ _ _ _ _ _ _ (at told))
      (synced_run _ _ _ _ (at told).log.synced (c.confirm.ensures.windows told)),
)

pub returns-in-Err-clause-leaves : goal.returns-in-Err-clause-leaves
returns-in-Err-clause-leaves g c plant d count at = passes_leaves c.args.self.now _ plant d d (returns-in-Err-clause-passes g c plant d count at)
