use Rattle.std.proofs.Common.{refl, inl, arith}
use Rattle.boss_disk.specs.Legs.{LeaveBoth}
use Rattle.boss_disk_pair.specs.Images.{OpensToOne}
use Rattle.boss_disk_pair.specs.Reads.{ends_at, is_settled, is_clean}
use Rattle.boss_disk_pair.specs.Rests.{rests, passes}
use Rattle.boss_disk_pair.proofs.Orders.{one_moves, both_stand}
use Rattle.boss_disk_pair.proofs.Repairs.{readied_rests, shutting}
use Rattle.boss_disk_pair.proofs.Words.{synced_leaves}
use Rattle.boss_disk_pair.proofs.two_disks.TwoDisks.ready.Goals as goal

pub returns-then-self-clause-passes : goal.returns-then-self-clause-passes
unfolding ends_at is_settled is_clean passes
returns-then-self-clause-passes g c told plant from d before count found end settled clean = (
  d,
  inl refl,
  λ told. (
    refl,
    both_stand (LeaveBoth (OpensToOne plant c.args.self.now.digest d d)) c.args.self.now.second _ _
        (synced_leaves plant c.args.self.now.digest c.args.self.now.second _ _ _ _ d d count (settled told).0 (settled told).1 (clean told)),
  ),
)

pub returns-in-Ok-clause-rests : goal.returns-in-Ok-clause-rests
unfolding ends_at is_settled rests
returns-in-Ok-clause-rests g c plant from d before found end settled many = λ told.
    readied_rests _ _ _ _ _ _ _ _ _ _ _ _ _ _ (end told) _ _ _ _ _ _ _ _ c.ready.ensures.version many (settled told).1 c.if-self.false
    (c.in-Ok.ensures.rests told _ _ (end told).at (settled told).0 (c.args.self.now.going c.if-self.false)) (omega (arith, c.saturating_add.ensures, c.min-self.ensures, c.ranges.events.fits))

pub returns-in-Ok-clause-passes : goal.returns-in-Ok-clause-passes
unfolding ends_at is_settled is_clean passes
returns-in-Ok-clause-passes g c told plant from d before count found end settled clean =
    let shut = shutting _ _ _ _ _ _ _ _ _ _ _ _ _ _ (end told) _ count (settled told).1 (clean told) in (
      shut.0,
      shut.1,
      λ again. (
        refl,
        one_moves (OpensToOne plant c.args.self.now.digest d shut.0) _ c.args.self.now.second _ _ _ shut.2
            (c.ready.ensures.images told _ _ (end told).at (settled told).0),
      ),
    )

pub returns-in-Err-clause-passes : goal.returns-in-Err-clause-passes
unfolding ends_at is_settled is_clean passes
returns-in-Err-clause-passes g c told plant from d before count found end settled clean =
    let shut = shutting _ _ _ _ _ _ _ _ _ _ _ _ _ _ (end told) _ count (settled told).1 (clean told) in (
      shut.0,
      shut.1,
      λ again. (
        refl,
        one_moves (OpensToOne plant c.args.self.now.digest d shut.0) _ c.args.self.now.second _ _ _ shut.2
            (c.ready.ensures.images told _ _ (end told).at (settled told).0),
      ),
    )
