use Rattle.std.proofs.Common.{sym, ◌∙◌, arith}
use Rattle.boss_sessions.proofs.ReplyLemmas.{attached-end}
use Rattle.boss_sessions.proofs.turns.attaches.Goals as goal

pub returns : goal.returns
returns c = sym (c.loop-place.invariant ∙ attached-end c.args.commands.now c.args.answers.now c.loop-place.place (omega (arith, c.loop-place-test.false)))
