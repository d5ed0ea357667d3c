use Rattle.std.proofs.Common.{length, ap, ◌∙◌, refl, arith}
use Rattle.def_seal.proofs.Seals.{sealed_short}
use Rattle.boss_disk_pair.specs.Images.{OpensToOne}
use Rattle.boss_disk_pair.specs.Rests.{rests, passes}
use Rattle.boss_disk_pair.proofs.Appends.{appended_rests, appending_leaves}
use Rattle.boss_disk_pair.proofs.Orders.{one_moves}
use Rattle.boss_disk_pair.proofs.Words.{rests_leaves, rests_passes, leaves_wider, passes_wider, passes_leaves}
use Rattle.boss_disk_pair.proofs.two_disks.TwoDisks.append.Goals as goal

pub append-requires-clause-within : goal.append-requires-clause-within
append-requires-clause-within g c =
    let whole = ap length (c.bytes.ensures ∙ c.put_sum.ensures.sealed) in
    omega (arith, whole, sealed_short c.args.self.now.journal.version c.args.self.now.journal.place c.args.self.now.seed c.args.into.now.bytes, c.requires.within)

pub returns-in-Done-clause-log : goal.returns-in-Done-clause-log
returns-in-Done-clause-log g c done =
    let whole = ap length (c.bytes.ensures ∙ c.put_sum.ensures.sealed) in
    omega (arith, c.in-Done.ensures.place done, whole, sealed_short c.args.self.now.journal.version c.args.self.now.journal.place c.args.self.now.seed c.args.into.now.bytes)

pub returns-then-self-clause-passes : goal.returns-then-self-clause-passes
returns-then-self-clause-passes g c plant d count at batch after text next =
    passes_wider c.args.self.now c.args.self.now plant d after (rests_passes c.args.self.now plant d count at)

pub returns-then-self-clause-leaves : goal.returns-then-self-clause-leaves
returns-then-self-clause-leaves g c plant d count at batch after text next =
    leaves_wider c.args.self.now plant d after (rests_leaves c.args.self.now plant d count at)

pub returns-in-Done-clause-rests : goal.returns-in-Done-clause-rests
unfolding rests
returns-in-Done-clause-rests g c plant d count at batch after text many next done = λ told.
    appended_rests _ _ _ _ _ _ _ _ _ _ _ _ _ _ _ (at told) c.args.into.now.bytes c.bytes.result.now batch after text (c.bytes.ensures ∙ c.put_sum.ensures.sealed) next
    _ _ _ _ _ _ c.append.ensures.version many
    (c.in-Done.ensures.rests told _ _ (at told).log refl) (omega (arith, c.saturating_add.ensures, c.min-self.ensures, c.ranges.events.fits))

pub returns-in-Done-clause-passes : goal.returns-in-Done-clause-passes
unfolding rests passes
returns-in-Done-clause-passes g c plant d count at batch after text next = λ told. (
  refl,
  one_moves (OpensToOne plant c.args.self.now.digest d after) _ c.args.self.now.second _ _ _ (appending_leaves _ _ _ _ _ _ _ _ _ _ _ _ _ _ _ (at told) c.args.into.now.bytes c.bytes.result.now batch after text
      (c.bytes.ensures ∙ c.put_sum.ensures.sealed) next)
      (c.append.ensures.images told _ _ (at told).log),
)

pub returns-in-Done-clause-leaves : goal.returns-in-Done-clause-leaves
returns-in-Done-clause-leaves g c plant d count at batch after text next =
    passes_leaves c.args.self.now _ plant d after (returns-in-Done-clause-passes g c plant d count at batch after text next)

pub returns-in-DiskFault-clause-passes : goal.returns-in-DiskFault-clause-passes
unfolding rests passes
returns-in-DiskFault-clause-passes g c plant d count at batch after text next = λ told. (
  refl,
  one_moves (OpensToOne plant c.args.self.now.digest d after) _ c.args.self.now.second _ _ _ (appending_leaves _ _ _ _ _ _ _ _ _ _ _ _ _ _ _ (at told) c.args.into.now.bytes c.bytes.result.now batch after text
      (c.bytes.ensures ∙ c.put_sum.ensures.sealed) next)
      (c.append.ensures.images told _ _ (at told).log),
)

pub returns-in-DiskFault-clause-leaves : goal.returns-in-DiskFault-clause-leaves
returns-in-DiskFault-clause-leaves g c plant d count at batch after text next =
    passes_leaves c.args.self.now _ plant d after (returns-in-DiskFault-clause-passes g c plant d count at batch after text next)
