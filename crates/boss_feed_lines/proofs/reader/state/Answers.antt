use Rattle.boss_feed_lines.proofs.Lines.{reads-state}
use Rattle.boss_feed_lines.proofs.reader.state.Goals as goal

pub returns : goal.returns
returns c bytes = reads-state c.args.numbers.now c.in_ok-number.number c.in_ok-number.size c.in_ok-number.ensures
