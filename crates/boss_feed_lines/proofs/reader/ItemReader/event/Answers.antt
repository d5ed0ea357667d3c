use Rattle.boss_feed_lines.proofs.Lines.{event-no-blank, event-no-number, event-no-bytes, reads-event}
use Rattle.boss_feed_lines.proofs.reader.ItemReader.event.Goals as goal

pub returns-then-take : goal.returns-then-take
returns-then-take c =
    reads-event c.args.text.now c.in_ok-number.number.now c.in_ok-number.digits.now c.take.new.self c.in_ok-number-2.number c.in_ok-number.ensures.1 c.in_ok-number-2.ensures
    c.if-take.ensures

pub returns-else-take : goal.returns-else-take
returns-else-take c =
    event-no-bytes c.args.text.now c.in_ok-number.number.now c.in_ok-number.digits.now c.take.new.self c.in_ok-number.ensures.0 c.in_ok-number.ensures.1 c.if-take.ensures

pub returns-in_err-number : goal.returns-in_err-number
returns-in_err-number c = rw c.from_residual.ensures (event-no-blank c.args.text.now c.in_err-number.ensures)

pub returns-in_err-number-2 : goal.returns-in_err-number-2
returns-in_err-number-2 c =
    rw c.from_residual-in_err-number-2.ensures
    (event-no-number c.args.text.now c.in_ok-number.number.now c.in_ok-number.digits.now c.in_ok-number.ensures.0 c.in_ok-number.ensures.1 c.in_err-number-2.ensures)
