use Rattle.std.proofs.Common.{◌∙◌, take, drop, subst, arith}
use Rattle.boss_seal.specs.Taken.{Took}
use Rattle.boss_snapshot.proofs.Writings.{piece_on}
use Rattle.boss_snapshot.proofs.writing.sum_on.Goals as goal

pub overflow_add-text_place : goal.overflow_add-text_place
overflow_add-text_place g c = omega (arith, c.text_place.ensures.few, c.loop-done-test.true, c.requires.low)

pub loop-done-preserved : goal.loop-done-preserved
loop-done-preserved g c =
    let so = c.loop-done.invariant in
    let ok = c.in_ok-take_piece.ensures in
    let done = c.loop-done.done in
    record {
      within = omega (arith, c.min-size.ensures, c.loop-done-test.true);
      took = λ told.
          let reads = g.D.Disk.reads c.args.disk.now in
          subst (Took c.take_piece.new.summing c.args.seed.now 65) (piece_on c.text_place.result done c.min-size.result (g.D.Disk.reads c.loop-done.disk) reads c.text_place.ensures.is (so.reads told))
          (ok.took told c.args.seed.now (take done (drop 73 reads)) 65 (so.took told));
      reads = λ told. ok.reads told ∙ so.reads told;
      windows = λ told. ok.windows told ∙ so.windows told;
      faults = ok.cause.fine ∙ so.faults;
    }
