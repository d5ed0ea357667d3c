use Rattle.law_feed.proofs.OneOutcome.{one-outcome}
use Rattle.law_feed.proofs.lines.a_follower_makes_one_thing_of_lines.Goals as goal

pub returns : goal.returns
returns c plant lines f number one other is also = one-outcome plant lines f number one other is also
