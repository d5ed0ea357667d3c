-- Source: own.
-- What comes of a feed of one's own history.
use Rattle.std.specs.Prelude.{◌≡◌, ℕ, ◌≤◌, max, Bool, true, false, List, length, take, map}
use Rattle.boss_disk.specs.declared.disk.Disk as disk
use Rattle.boss_durable.specs.declared.durable.Durable.{Durable}
use Rattle.boss_durable.specs.Words.{keeps, lasting}
use Rattle.boss_following.specs.declared.stop.FollowEnd.{FollowEnd}
use Rattle.boss_following.specs.declared.stop.FollowEnd.TheVariants as end
use Rattle.boss_following.specs.Ends.{has_failed, Runs}
use Rattle.boss_model.specs.declared.event.Event.{Event}
use Rattle.boss_model.specs.declared.state.Actuator.{Actuator}
use Rattle.boss_model.specs.Limits.{most_lines}
use Rattle.boss_model.specs.State.{Persistent}
use Rattle.def_feed.specs.Histories.{IsAfter, IsHistory, last_whole}
use Rattle.def_feed.specs.Items.{Item, item_text}
use Rattle.law_feed.specs.Following.{BeginFeed}

-- A journal has the first events of a history, so many, and these lines begin a feed of some pair of the same history, above a number
-- that is not above theirs.
pub record BeginOwn (plant : List Actuator) (history : List Event) (known : ℕ) (d : Persistent) (lines : List (List ℕ)) (told : List Item) : Type 0 where
  pub whole : IsHistory plant history
  pub after : IsAfter plant history known d
  pub begins : BeginFeed plant history known told
  pub spelled : lines ≡ map item_text told

-- the greater of how many events are known, and the last number that was wholly told in the first lines, so many
abbrev pub known_after : ℕ → List Item → ℕ → ℕ
known_after known told many = max known (last_whole (take many told))

-- the state after so many events of a history, from one number to another
abbrev pub IsAmong : List Actuator → List Event → ℕ → ℕ → Persistent → Type 0
IsAmong plant history least most d = (count : ℕ) × (least ≤ count) × (count ≤ most) × IsAfter plant history count d

-- Which ends come: no line is at fault or too long, and no event is missing.
abbrev pub comes : FollowEnd → Bool
comes (end.Gap have found) = false
comes (end.BadLine line) = false
comes end.TooLong = false
comes other = true

-- how many of the lines were read
abbrev pub AreRead : ℕ → ℕ → FollowEnd → Type 0
AreRead all many end.End = many ≡ all
AreRead all many end.Short = many ≡ all
AreRead all many end.Limit = many ≡ most_lines
AreRead all many end.Stopped = many ≡ 0
AreRead all many other = many ≤ all

-- How many events there are then, of so many before and so many at most. Where memory was wanting the last lines may not have been
-- done, and where a disk has failed the images tell.
abbrev pub CountsTo : ℕ → ℕ → ℕ → FollowEnd → Type 0
CountsTo known most count end.DiskFault = Unit {0}
CountsTo known most count end.Stopped = Unit {0}
CountsTo known most count end.NoMemory = (known ≤ count) × (count ≤ most)
CountsTo known most count other = count ≡ most

module _ {D : Type 0} {g : disk.Ghosts D} where
  -- The lines that were read are followed: the journal comes to the state after as many events of the history as before, or as the
  -- last number that was wholly read, if that is greater. Each image on the way opens to the state after some number between.
  pub record FollowedOwn (history : List Event) (told : List Item) (old new : Durable D g) (result : FollowEnd) : Type 0 where
    pub follows : comes result ≡ true
    pub many : ℕ
    pub are_read : AreRead (length told) many result
    pub counts : CountsTo old.disks.events (known_after old.disks.events told many) new.disks.events result
    pub leads : has_failed result ≡ false → IsAfter old.engine.plant history new.disks.events (lasting new)
    pub keeps_on : (before : List Event) → keeps old before → has_failed result ≡ false → (after : List Event) × keeps new after
    pub images : g.tells → (before : List Event) → keeps old before →
        Runs (IsAmong old.engine.plant history old.disks.events (known_after old.disks.events told many)) old new
