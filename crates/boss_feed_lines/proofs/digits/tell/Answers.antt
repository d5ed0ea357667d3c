use Rattle.std.proofs.Common.{[]}
use Rattle.boss_feed_lines.proofs.Hexes.{too-short}
use Rattle.boss_feed_lines.proofs.digits.tell.Goals as goal

pub returns-then-count-eq0 : goal.returns-then-count-eq0
returns-then-count-eq0 c = too-short c.args.text.now [] c.if-count-eq0.true
