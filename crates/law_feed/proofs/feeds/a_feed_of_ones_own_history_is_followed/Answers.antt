use Rattle.law_feed.proofs.Laws.{feed-followed, feed-comes}
use Rattle.law_feed.proofs.feeds.a_feed_of_ones_own_history_is_followed.Goals as goal

pub returns-clause-followed : goal.returns-clause-followed
returns-clause-followed c plant history d known number read outcome limits whole now begins follows =
    feed-followed plant history d known number read outcome limits whole now begins follows

pub returns-clause-comes : goal.returns-clause-comes
returns-clause-comes c plant history d known number read limits whole now begins = feed-comes plant history d known number read limits whole now begins
