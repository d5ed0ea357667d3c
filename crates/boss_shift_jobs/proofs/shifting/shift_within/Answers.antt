use Rattle.std.proofs.Common.{refl}
use Rattle.boss_shift_jobs.proofs.Coming.{lacked-so}
use Rattle.boss_shift_jobs.proofs.Moving.{still-moves}
use Rattle.boss_shift_jobs.proofs.shifting.shift_within.Goals as goal

pub returns-in-Err-clause-comes : goal.returns-in-Err-clause-comes
returns-in-Err-clause-comes g c =
    lacked-so g.D.Disk g.K.Sink c.args.catalogue.now c.args.by c.args.durable c.requires.plant c.requires.digest c.requires.keeps c.requires.leaves
    c.args.sink.now c.args.sink.now 8 c.args.durable c.close.result
    (record { parts = c.close.ensures.disks; opens = c.close.ensures.opens; left = c.close.ensures.left }) refl refl refl

pub returns-in-Err-clause-moves : goal.returns-in-Err-clause-moves
returns-in-Err-clause-moves g c =
    still-moves g.D.Disk c.args.catalogue.now c.args.durable c.requires.plant c.requires.digest c.requires.keeps c.requires.leaves c.args.by c.close.result c.close.ensures.disks
