use Rattle.std.proofs.Common.{sym}
use Rattle.boss_sessions.proofs.AnsweredLemmas.{last-some}
use Rattle.boss_sessions.proofs.rounds.last_moment.Goals as goal

pub returns-in-Some : goal.returns-in-Some
returns-in-Some c = last-some c.args.commands.now c.in-Some.call.now c.args.last (sym c.in-Some.ensures.value)
