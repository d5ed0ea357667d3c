use Rattle.std.proofs.Common.{sym}
use Rattle.boss_reversion.proofs.Playing.{value-before}
use Rattle.boss_reversion.proofs.reversions.value_at.Goals as goal

pub returns-then-moment-reversion : goal.returns-then-moment-reversion
returns-then-moment-reversion c = sym (value-before c.args.reversion.now.start c.args.reversion.now.steps c.args.moment c.if-moment-reversion.true)
