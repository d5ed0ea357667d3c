use Rattle.law_feed.proofs.Laws.{front-followed}
use Rattle.law_feed.proofs.feeds.any_front_of_a_feed_is_followed.Goals as goal

pub returns : goal.returns
returns c plant history d base known from before events lines more outcome limits whole now of asked is follows =
    front-followed plant history d base known from before events lines more outcome limits whole now of asked is follows
