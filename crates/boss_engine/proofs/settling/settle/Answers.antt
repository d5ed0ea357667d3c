use Rattle.std.proofs.Common.{sym, ◌∙◌, arith}
use Rattle.boss_model.specs.Settle.{is_moved, recommanded}
use Rattle.boss_marks.proofs.Rounds.{turned_below-none}
use Rattle.boss_persistent.specs.Lasting.{persistent_of}
use Rattle.boss_engine.proofs.Turns.{settled-rest}
use Rattle.boss_engine.proofs.settling.settle.Goals as goal

-- no point is touched, so each was told what it is to have
pub returns-then-is_settled-clause-marks : goal.returns-then-is_settled-clause-marks
returns-then-is_settled-clause-marks c =
    let plant = c.args.plant.now in
    let d = persistent_of c.args.lasting.now in
    let marks = c.args.marks.now in
    sym (turned_below-none (is_moved plant d) (recommanded plant d) marks) ∙ settled-rest plant d marks 0 (omega arith)
    (λ k low high. c.requires.current k (omega (arith, high, c.requires.number)) (c.is_settled.ensures.settled c.if-is_settled.true k))
