-- Source: own.
-- A feed that is followed, by what two disks or a journal's two files hold.
use Rattle.std.specs.Prelude.{◌≡◌, ◌⊎◌, ℕ, ◌<◌, ◌==◌, true, false, if◌then◌else◌, List, [], ◌++◌, length, None}
use Rattle.boss_disk.specs.Record.{DiskRecord}
use Rattle.boss_disk.specs.Window.{settled}
use Rattle.boss_disk_pair.specs.Images.{OpensTo}
use Rattle.boss_following.specs.declared.stop.FollowEnd.{FollowEnd}
use Rattle.boss_following.specs.Ends.{EndsAt, has_failed, LastsAfterSome, OpensToSome, ReadCause}
use Rattle.boss_following.specs.Owns.{AreRead, BeginOwn, comes, CountsTo, IsAmong, known_after}
use Rattle.boss_jobs.specs.Crashes.{WhileMoved}
use Rattle.boss_jobs.specs.Journals.{HadNoJournal, Pair, RefusedJournal, StillStands}
use Rattle.boss_model.specs.Catalogue.{Catalogue, actuators}
use Rattle.boss_model.specs.declared.event.Event.{Event}
use Rattle.boss_model.specs.Limits.{last_number}
use Rattle.boss_model.specs.Lines.{lines}
use Rattle.boss_model.specs.State.{Persistent, State}
use Rattle.boss_opening.specs.Opens.{digest_of, OpenedAt}
use Rattle.boss_outside.specs.Counts.{Rose}
use Rattle.boss_pair_find.specs.Two.{two}
use Rattle.boss_outside.specs.Plan.{new_plan}
use Rattle.boss_outside.specs.declared.sink.Sink as sink
use Rattle.boss_outside.specs.declared.source.Source as source
use Rattle.boss_standby_jobs.specs.Telling.{TellsEnd}
use Rattle.def_disk_pair.specs.Pairs.{OpensCleanly}
use Rattle.def_feed.specs.Followers.{between, Follower}
use Rattle.def_feed.specs.Histories.{IsAfter}
use Rattle.def_feed.specs.Items.{Item}

-- what a standby reads, and where it tells what it came to
pub record Streams (S K : Type 0) : Type 0 where
  pub source : S
  pub sink : K

abbrev pub streams : {S K : Type 0} → S → K → Streams S K
streams source sink = record { source = source; sink = sink }

-- ---- what comes of the lines of a feed

-- Below, `all_are` says of a kind of images that a crash leaves no others meanwhile.

-- A follower stood here, these bytes were to be read, and so many are left; these of their lines were read. The feed came to its end
-- as it says: what lasts then, after how many events, is what the lines lead to, and the pair opens cleanly to it. Where a disk failed
-- the pair opens cleanly to what lasts after some of the lines that were read, and so does what a crash may leave meanwhile.
pub record CameTo (catalogue : Catalogue) (start : Follower) (bytes left : List ℕ) (end : FollowEnd) (d : Persistent) (number : ℕ)
    (tells : Type 0) (all_are : (List ℕ → List ℕ → Type 0) → Type 0) (first second : List ℕ) : Type 0 where
  pub read : List (List ℕ)
  pub unread : List (List ℕ)
  pub all : lines bytes ≡ read ++ unread
  pub now : Follower
  pub ends : EndsAt (actuators catalogue) start bytes left read now end
  pub lasts : has_failed end ≡ false → (d ≡ now.lasting) × (number ≡ now.count)
  pub opens : tells → has_failed end ≡ false → OpensTo (actuators catalogue) (digest_of catalogue) now.lasting first second
  pub counted : tells → has_failed end ≡ false → now.count < last_number →
      OpensCleanly (actuators catalogue) (digest_of catalogue) now.lasting now.count first second
  pub torn : tells → OpensToSome (actuators catalogue) (digest_of catalogue) (LastsAfterSome (actuators catalogue) start read) first second
  pub images : all_are (OpensToSome (actuators catalogue) (digest_of catalogue) (LastsAfterSome (actuators catalogue) start read))

-- The lines begin a feed of the journal's own history, of which it had the first events, so many. They are followed as far as they were
-- read: what lasts then is the state after as many events of the history as before, or as the last number that was wholly read, if
-- that is greater; where memory was wanting, or a disk failed, after some number between.
pub record CameOwn (catalogue : Catalogue) (history : List Event) (told : List Item) (known : ℕ) (end : FollowEnd) (d : Persistent) (number : ℕ)
    (tells : Type 0) (all_are : (List ℕ → List ℕ → Type 0) → Type 0) (first second : List ℕ) : Type 0 where
  pub follows : comes end ≡ true
  pub many : ℕ
  pub are_read : AreRead (length told) many end
  pub counts : CountsTo known (known_after known told many) number end
  pub leads : has_failed end ≡ false → IsAfter (actuators catalogue) history number d
  pub torn : tells → OpensToSome (actuators catalogue) (digest_of catalogue) (IsAmong (actuators catalogue) history known (known_after known told many)) first second
  pub images : all_are (OpensToSome (actuators catalogue) (digest_of catalogue) (IsAmong (actuators catalogue) history known (known_after known told many)))

-- ---- the job

-- two disks in memory, of which so many calls failed; after a crash nothing of them is there
abbrev pub in_memory : List ℕ → List ℕ → ℕ → Pair
in_memory first second faults = record {
  tells = Unit {0};
  lasts = Unit {0};
  whole = ⊥;
  stories = two (record { past = []; window = settled first }) (record { past = []; window = settled second });
  first = first;
  second = second;
  faults = faults;
}

-- a disk in memory that holds nothing
abbrev pub empty_disk : DiskRecord
empty_disk = record { start = []; calls = []; failures = record { plan = new_plan []; left = None }; is_whole = false }

module _ {S K : Type 0} (s : source.Ghosts S) (k : sink.Ghosts K) (catalogue : Catalogue) where
  -- A feed was followed from this state on, after so many events, until this end, and what it came to was told. A disk failed exactly where
  -- the end says so, and so did the source.
  pub record Followed (d : Persistent) (number : ℕ) (all_are : (List ℕ → List ℕ → Type 0) → Type 0) (was now : Pair) (old new : Streams S K) (status : ℕ) : Type 0 where
    pub end : FollowEnd
    pub lasting : Persistent
    pub count : ℕ
    pub tells : TellsEnd k end count lasting old.sink new.sink status
    pub read_fault : ReadCause (s.faults old.source) (s.faults new.source) end
    pub disk_fault : has_failed end ≡ true → Rose was.faults now.faults
    pub no_disk_fault : has_failed end ≡ false → now.faults ≡ was.faults
    pub own : s.tells → (history : List Event) (told : List Item) → BeginOwn (actuators catalogue) history number d (lines (s.left old.source)) told
        → CameOwn catalogue history told number end lasting count was.tells all_are now.first now.second
    pub came : s.tells → CameTo catalogue (between d number) (s.left old.source) (s.left new.source) end lasting count was.tells all_are now.first now.second

  module _ (was now : Pair) (old new : Streams S K) (status : ℕ) where
    -- the journal was opened, and the feed was followed from the state that its bytes stand for
    pub record FollowedJournal : Type 0 where
      pub state : State
      pub number : ℕ
      pub opened : was.tells → OpenedAt (actuators catalogue) (digest_of catalogue) was.first was.second state number
      pub followed : Followed state.persistent number
          (λ Is. was.tells → now.whole → WhileMoved (actuators catalogue) (digest_of catalogue) was.first was.second was.stories Is now.stories) was now old new status

    -- where it was not opened nothing is read, and what it stands for is still there
    abbrev pub FollowsOver : Type 0
    FollowsOver = (HadNoJournal was now old new status × (was.tells → was.lasts → StillStands catalogue was now))
        ⊎ (RefusedJournal k catalogue was now old.sink new.sink status × (new.source ≡ old.source)) ⊎ FollowedJournal

  -- ---- a journal in memory alone

  module _ (old new : Streams S K) (status : ℕ) where
    -- The feed was followed over two disks in memory that held nothing. These fail for want of memory alone, which is status 8.
    pub record FollowedNew : Type 0 where
      pub first : List ℕ
      pub second : List ℕ
      pub faults : ℕ
      pub over : ℕ
      pub follows : FollowsOver (in_memory [] [] 0) (in_memory first second faults) old new over
      pub status_is : status ≡ (if over == 5 then 8 else over)

    -- or no memory was to be had for the disks, and nothing was read or told
    abbrev pub FollowsNew : Type 0
    FollowsNew = ((status ≡ 8) × (new ≡ old)) ⊎ FollowedNew
