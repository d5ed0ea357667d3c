use Rattle.std.proofs.Common.{sym}
use Rattle.boss_guard.proofs.Holding.{due_passed}
use Rattle.boss_guard.proofs.trying.waiting.Goals as goal

pub returns-then-is_skipped-clause-due : goal.returns-then-is_skipped-clause-due
returns-then-is_skipped-clause-due c = due_passed c.args.guards.now c.args.place c.requires.known c.args.skipped.now (sym c.if-is_skipped.ensures)
