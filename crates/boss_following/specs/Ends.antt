-- Source: own.
-- How the following of a feed ends.
use Rattle.std.specs.Prelude.{◌≡◌, ◌≢◌, ℕ, ◌<◌, Bool, true, false, List, [], ◌++◌, length, take}
use Rattle.boss_disk.specs.declared.disk.Disk as disk
use Rattle.boss_disk.specs.Legs.{Legs, LeaveBoth}
use Rattle.boss_disk_pair.specs.Causes.{Counts, OneRose}
use Rattle.boss_disk_pair.specs.Images.{OpensTo}
use Rattle.boss_disk_pair.specs.Rests.{stories}
use Rattle.boss_durable.specs.declared.durable.Durable.{Durable}
use Rattle.boss_durable.specs.Words.{keeps, lasting}
use Rattle.boss_following.specs.declared.stop.FollowEnd.{FollowEnd}
use Rattle.boss_following.specs.declared.stop.FollowEnd.TheVariants as end
use Rattle.boss_following.specs.declared.stop.Stop.{Stop}
use Rattle.boss_following.specs.declared.stop.Stop.TheVariants as stop
use Rattle.boss_following.specs.Moves.{IsKept}
use Rattle.boss_lines.specs.declared.reader.Next.{Next}
use Rattle.boss_lines.specs.declared.reader.Next.TheVariants as next
use Rattle.boss_model.specs.declared.event.Event.{Event}
use Rattle.boss_model.specs.declared.state.Actuator.{Actuator}
use Rattle.boss_model.specs.Limits.{most_lines}
use Rattle.boss_model.specs.Lines.{lines, whole_lines}
use Rattle.boss_model.specs.State.{Persistent}
use Rattle.boss_outside.specs.Counts.{Rose}
use Rattle.def_feed.specs.Followers as feed
use Rattle.def_feed.specs.Followers.{between, Follower, Follows}

-- the end at the line of this number
abbrev pub stopped_at : Stop → ℕ → FollowEnd
stopped_at (stop.Gap have found) line = end.Gap have found
stopped_at stop.BadLine line = end.BadLine line
stopped_at stop.DiskFault line = end.DiskFault
stopped_at stop.NoMemory line = end.NoMemory

-- the end of a feed, by what is under way
abbrev pub end_between : feed.Place → FollowEnd
end_between feed.Between = end.End
end_between (feed.Passing left) = end.Short
end_between (feed.Taking number size bytes) = end.Short

-- the end behind all lines that were read
abbrev pub ended_at : feed.Place → Next → FollowEnd
ended_at place next.Line = end.Limit
ended_at place next.Finish = end_between place
ended_at place next.TooLong = end.TooLong
ended_at place next.ReadFault = end.ReadFault

-- whether a disk failed in an earlier call, and whether one has failed by now
abbrev pub was_stopped : FollowEnd → Bool
was_stopped end.Stopped = true
was_stopped other = false

abbrev pub has_failed : FollowEnd → Bool
has_failed end.Stopped = true
has_failed end.DiskFault = true
has_failed other = false

-- a read fault is told exactly where the source's count rose, and a disk fault where that of a disk did
abbrev pub ReadCause : ℕ → ℕ → FollowEnd → Type 0
ReadCause before now end.ReadFault = Rose before now
ReadCause before now other = now ≡ before

abbrev pub DiskCause : Counts → Counts → FollowEnd → Type 0
DiskCause before now end.DiskFault = OneRose before now
DiskCause before now other = now ≡ before

-- the lines were followed through up to some line
abbrev pub ThroughSome : List Actuator → Follower → List (List ℕ) → Follower → Type 0
ThroughSome plant start read now = (front : List (List ℕ)) × (rest : List (List ℕ)) × (read ≡ front ++ rest) × Follows plant start 1 front (feed.Through now)

-- What comes of the lines of a source, of which so much is left now, and why no more came of them. These were read, the one that
-- ends it with them. A follower makes one thing of lines: so each end comes where it says, and nowhere else.
abbrev pub EndsAt : List Actuator → Follower → List ℕ → List ℕ → List (List ℕ) → Follower → FollowEnd → Type 0
EndsAt plant start bytes left read now end.End = (left ≡ []) × (read ≡ lines bytes) × (now.place ≡ feed.Between) × Follows plant start 1 read (feed.Through now)
EndsAt plant start bytes left read now end.Short = (left ≡ []) × (read ≡ lines bytes) × (now.place ≢ feed.Between) × Follows plant start 1 read (feed.Through now)
EndsAt plant start bytes left read now (end.Gap have found) = Follows plant start 1 (lines bytes) (feed.Late have found now)
EndsAt plant start bytes left read now (end.BadLine line) = Follows plant start 1 (lines bytes) (feed.BadLine line now)
EndsAt plant start bytes left read now end.TooLong = Follows plant start 1 (lines bytes) (feed.TooLong now)
EndsAt plant start bytes left read now end.Limit = (most_lines < length (lines bytes)) × (read ≡ take most_lines (lines bytes)) × Follows plant start 1 read (feed.Through now)
EndsAt plant start bytes left read now end.ReadFault = (front : List ℕ) × (bytes ≡ front ++ left) × (read ≡ whole_lines front) × Follows plant start 1 read (feed.Through now)
EndsAt plant start bytes left read now end.DiskFault = ThroughSome plant start read now
EndsAt plant start bytes left read now end.NoMemory = ThroughSome plant start read now
EndsAt plant start bytes left read now end.Stopped = (read ≡ []) × (now ≡ start)

-- this lasts after some of the lines
abbrev pub LastsAfterSome : List Actuator → Follower → List (List ℕ) → Persistent → Type 0
LastsAfterSome plant start read d = (now : Follower) × ThroughSome plant start read now × (d ≡ now.lasting)

-- the pair is clean, and opens to some state of this kind
abbrev pub OpensToSome : List Actuator → List ℕ → (Persistent → Type 0) → List ℕ → List ℕ → Type 0
OpensToSome plant digest Is first second = (d : Persistent) × Is d × OpensTo plant digest d first second

module _ {D : Type 0} {g : disk.Ghosts D} where
  -- From the one moment to the other, while one disk moves at a time, each image is clean and opens to some state of this kind.
  abbrev pub Runs : (Persistent → Type 0) → Durable D g → Durable D g → Type 0
  Runs Is old new = Legs (LeaveBoth (OpensToSome old.engine.plant old.disks.digest Is)) (stories old.disks) (stories new.disks)

  -- where a journal stands that no feed was read for
  abbrev pub start_of : Durable D g → Follower
  start_of durable = between (lasting durable) durable.disks.events

  -- What was followed of the lines of a source, of which so much is left now. What comes of them is what lasts, after as many
  -- events, and the disks have it. While it ran each image opened to what lasts after some of the lines that were read.
  pub record FollowedFeed (old new : Durable D g) (bytes left : List ℕ) (result : FollowEnd) : Type 0 where
    pub read : List (List ℕ)
    pub unread : List (List ℕ)
    pub all : lines bytes ≡ read ++ unread
    pub now : Follower
    pub ends : EndsAt old.engine.plant (start_of old) bytes left read now result
    pub lasts : has_failed result ≡ false → (lasting new ≡ now.lasting) × (new.disks.events ≡ now.count)
    pub keeps_on : (before : List Event) → keeps old before → has_failed result ≡ false → IsKept new
    pub images : g.tells → (before : List Event) → keeps old before → Runs (LastsAfterSome old.engine.plant (start_of old) read) old new
