-- Source: own.
-- How far a feed has been followed.
use Rattle.std.specs.Prelude.{ℕ, List}
use Rattle.boss_disk.specs.declared.disk.Disk as disk
use Rattle.boss_durable.specs.declared.durable.Durable.{Durable}
use Rattle.boss_durable.specs.Words.{lasting}
use Rattle.boss_following.specs.declared.following.Following.{Following}
use Rattle.boss_following.specs.declared.place.Place.{Place}
use Rattle.boss_following.specs.declared.place.Place.TheVariants.{Between, Passing, Taking}
use Rattle.boss_model.specs.State.{Persistent}
use Rattle.def_feed.specs.Followers as feed
use Rattle.def_feed.specs.Followers.{Follower}

-- the place, where these bytes of a state have come
abbrev pub place_of : Place → List ℕ → feed.Place
place_of Between bytes = feed.Between
place_of (Passing left) bytes = feed.Passing left
place_of (Taking number size) bytes = feed.Taking number size bytes

-- what lasts after so many events, and what is known of a feed beside it
abbrev pub at : Persistent → ℕ → Following → Follower
at d count following = record { lasting = d; count = count; place = place_of following.place following.state.items }

module _ {D : Type 0} {g : disk.Ghosts D} where
  abbrev pub spot : Durable D g → Following → Follower
  spot durable following = at (lasting durable) durable.disks.events following
