use Rattle.std.proofs.Common.{subst, sym}
use Rattle.def_disk_pair.specs.Pairs.{OpensCleanly}
use Rattle.boss_disk_pair.specs.Images.{OpensToOne}
use Rattle.boss_disk_pair.specs.Rests.{rests, leaves}
use Rattle.boss_disk_pair.proofs.Orders.{both_left, is_first, is_second}
use Rattle.boss_disk_pair.proofs.Words.{count_opens}
use Rattle.boss_disk_pair.proofs.two_disks.TwoDisks.close.Goals as goal

pub returns-then-self-clause-opens : goal.returns-then-self-clause-opens
unfolding rests
returns-then-self-clause-opens g c told plant d count at few =
    subst (λ x. OpensCleanly plant c.args.self.digest d count (g.D.Disk.reads c.args.self.spare) (g.D.Disk.reads x)) (sym c.close-disk.ensures)
    (is_second (OpensCleanly plant c.args.self.digest d count) c.args.self.second _ _ c.if-self.true (count_opens _ _ _ _ _ _ _ _ _ _ _ _ _ _ _ (at told) few))

pub returns-then-self-clause-left : goal.returns-then-self-clause-left
unfolding leaves
returns-then-self-clause-left g c told plant a b left =
    subst (λ x. OpensToOne plant c.args.self.digest a b (g.D.Disk.reads c.args.self.spare) (g.D.Disk.reads x)) (sym c.close-disk.ensures)
    (is_second (OpensToOne plant c.args.self.digest a b) c.args.self.second _ _ c.if-self.true
    (both_left (OpensToOne plant c.args.self.digest a b) c.args.self.second _ _ (g.D.Disk.reads c.args.self.journal.disk) (g.D.Disk.reads c.args.self.spare) (left told)
    (g.met.D.Disk.reads_stay c.args.self.journal.disk told) (g.met.D.Disk.reads_stay c.args.self.spare told)))

pub returns-else-self-clause-opens : goal.returns-else-self-clause-opens
unfolding rests
returns-else-self-clause-opens g c told plant d count at few =
    subst (λ x. OpensCleanly plant c.args.self.digest d count (g.D.Disk.reads x) (g.D.Disk.reads c.args.self.spare)) (sym c.close-disk.ensures)
    (is_first (OpensCleanly plant c.args.self.digest d count) c.args.self.second _ _ c.if-self.false (count_opens _ _ _ _ _ _ _ _ _ _ _ _ _ _ _ (at told) few))

pub returns-else-self-clause-left : goal.returns-else-self-clause-left
unfolding leaves
returns-else-self-clause-left g c told plant a b left =
    subst (λ x. OpensToOne plant c.args.self.digest a b (g.D.Disk.reads x) (g.D.Disk.reads c.args.self.spare)) (sym c.close-disk.ensures)
    (is_first (OpensToOne plant c.args.self.digest a b) c.args.self.second _ _ c.if-self.false
    (both_left (OpensToOne plant c.args.self.digest a b) c.args.self.second _ _ (g.D.Disk.reads c.args.self.journal.disk) (g.D.Disk.reads c.args.self.spare) (left told)
    (g.met.D.Disk.reads_stay c.args.self.journal.disk told) (g.met.D.Disk.reads_stay c.args.self.spare told)))
