use Rattle.law_feed.proofs.OneItem.{one-item}
use Rattle.law_feed.proofs.lines.a_line_is_of_one_item.Goals as goal

pub returns : goal.returns
returns c line one other is also = one-item line one other is also
