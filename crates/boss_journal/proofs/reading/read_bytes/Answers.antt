use Rattle.std.proofs.Common.{◌∙◌, ◌+◌, ◌++◌, ap, take, drop, arith}
use Rattle.boss_journal.proofs.Passed.{one_piece_more}
use Rattle.boss_journal.proofs.reading.read_bytes.Goals as goal

pub loop-done-preserved : goal.loop-done-preserved
loop-done-preserved g c = record {
  within = omega arith;
  given = λ told.
      c.in_ok-read_piece.ensures.given told
      ∙ ap (λ l. l ++ take c.min-size.result (drop (c.args.at + c.loop-done.done) (g.D.Disk.reads c.loop-done.disk))) (c.loop-done.invariant.given told)
      ∙ ap (λ l. c.args.into.now.bytes ++ take c.loop-done.done (drop c.args.at (g.D.Disk.reads c.args.disk.now)) ++ take c.min-size.result (drop (c.args.at + c.loop-done.done) l)) (c.loop-done.invariant.reads told)
      ∙ one_piece_more c.args.into.now.bytes (g.D.Disk.reads c.args.disk.now) c.args.at c.loop-done.done c.min-size.result;
  size = omega (arith, c.in_ok-read_piece.ensures.size);
  room = c.read_piece.ensures.room ∙ c.loop-done.invariant.room;
  reads = λ told. c.read_piece.ensures.reads told ∙ c.loop-done.invariant.reads told;
  windows = λ told. c.read_piece.ensures.windows told ∙ c.loop-done.invariant.windows told;
  faults = c.in_ok-read_piece.ensures.cause.fine ∙ c.loop-done.invariant.faults;
}
