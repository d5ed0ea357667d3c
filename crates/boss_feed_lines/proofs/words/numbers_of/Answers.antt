use Rattle.boss_feed_lines.proofs.Numerals.{no-blank-none, first-none, second-none, both-told}
use Rattle.boss_feed_lines.proofs.words.numbers_of.Goals as goal

pub returns : goal.returns
returns c =
    both-told c.args.text.now c.in_ok-first.first.now c.in_ok-first.second.now c.in_ok-first-2.first c.in_ok-second.second c.in_ok-first.ensures.1
    c.in_ok-first-2.ensures c.in_ok-second.ensures

pub returns-in_err-first : goal.returns-in_err-first
returns-in_err-first c = rw c.from_residual.ensures (no-blank-none c.args.text.now c.in_err-first.ensures)

pub returns-in_err-first-2 : goal.returns-in_err-first-2
returns-in_err-first-2 c =
    rw c.from_residual-in_err-first-2.ensures
    (first-none c.args.text.now c.in_ok-first.first.now c.in_ok-first.second.now c.in_ok-first.ensures.0 c.in_ok-first.ensures.1 c.in_err-first-2.ensures)

pub returns-in_err-second : goal.returns-in_err-second
returns-in_err-second c =
    rw c.from_residual-in_err-second.ensures
    (second-none c.args.text.now c.in_ok-first.first.now c.in_ok-first.second.now c.in_ok-first.ensures.0 c.in_ok-first.ensures.1 c.in_err-second.ensures)
