-- Source: own.
-- What it is that a feed of one's own history is followed.
use Rattle.std.specs.Prelude.{◌≡◌, ℕ, ◌≤◌, max, List, ◌++◌}
use Rattle.boss_model.specs.declared.event.Event.{Event}
use Rattle.boss_model.specs.declared.state.Actuator.{Actuator}
use Rattle.boss_model.specs.State.{Persistent}
use Rattle.def_feed.specs.Items.{Item}
use Rattle.def_feed.specs.Feeds.{feed_items}
use Rattle.def_feed.specs.Followers.{Follower, Outcome, Through}
use Rattle.def_feed.specs.Histories.{IsAfter, IsOf, last_whole}

-- These items begin a feed of some pair of the history, above a number that is not above how many events are known.
pub record BeginFeed (plant : List Actuator) (history : List Event) (known : ℕ) (read : List Item) : Type 0 where
  pub from : ℕ
  pub base : Persistent
  pub before : ℕ
  pub events : List Event
  pub left : List Item
  pub asked : from ≤ known
  pub of : IsOf plant history base before events
  pub is : read ++ left ≡ feed_items from base before events

-- Lines are gone through to their end. Then as many events are known as before, or up to the last number that was wholly read,
-- if that is greater; and the state is that after so many events of the history.
pub record IsFollowed (plant : List Actuator) (history : List Event) (known : ℕ) (read : List Item) (outcome : Outcome) : Type 0 where
  pub after : Follower
  pub through : outcome ≡ Through after
  pub counted : after.count ≡ max known (last_whole read)
  pub leads : IsAfter plant history after.count after.lasting
