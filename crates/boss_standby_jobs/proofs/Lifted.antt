-- What is said of a feed over one pair is said of another that follows it.
use Rattle.std.proofs.Common.{◌≡◌, inl, inr, ℕ, ◌+◌, ◌==◌, if◌then◌else◌, List, [], refl, subst, ◌∙◌, arith}
use Rattle.boss_disk.specs.declared.disk.Disk as disk
use Rattle.boss_disk.specs.Window.{settled}
use Rattle.boss_disk_pair.specs.Images.{OpensTo}
use Rattle.boss_following.specs.declared.stop.FollowEnd.{FollowEnd}
use Rattle.boss_following.specs.Ends.{LastsAfterSome, OpensToSome}
use Rattle.boss_following.specs.Owns.{IsAmong, known_after}
use Rattle.boss_jobs.specs.Crashes.{WhileMoved}
use Rattle.boss_jobs.specs.Journals.{on_disks, Pair}
use Rattle.boss_jobs.proofs.Lifting.{Follows, holds-so, looked-so, moved-carried, none-so, refused-so, same-two, stands-so}
use Rattle.boss_model.specs.Catalogue.{Catalogue, actuators}
use Rattle.boss_model.specs.declared.event.Event.{Event}
use Rattle.boss_model.specs.State.{Persistent}
use Rattle.boss_opening.specs.Opens.{digest_of, OpenedAt, OpenRefuses}
use Rattle.boss_outside.specs.Counts.{Rose}
use Rattle.boss_outside.specs.declared.sink.Sink as sink
use Rattle.boss_outside.specs.declared.source.Source as source
use Rattle.boss_standby_jobs.specs.Feeds.{FeedsOver}
use Rattle.boss_standby_jobs.specs.Followings.{CameOwn, CameTo, Followed, FollowsNew, FollowsOver, in_memory, Streams}
use Rattle.def_disk_pair.specs.Pairs.{OpensCleanly, StandsFor}
use Rattle.def_feed.specs.Followers.{Follower}
use Rattle.def_feed.specs.Items.{Item}

-- ---- what is left of a pair

module _ (catalogue : Catalogue) (start : Follower) (bytes left : List ℕ) (end : FollowEnd) (d : Persistent) (number : ℕ) (tells tells' : Type 0)
    (all_are all_are' : (List ℕ → List ℕ → Type 0) → Type 0) (first second first' second' : List ℕ) where
  came-as : (tells → tells') → ((Is : List ℕ → List ℕ → Type 0) → all_are' Is → all_are Is) → (tells → (first' ≡ first) × (second' ≡ second)) →
      CameTo catalogue start bytes left end d number tells' all_are' first' second' → CameTo catalogue start bytes left end d number tells all_are first second
  came-as told all same it = record {
    read = it.read;
    unread = it.unread;
    all = it.all;
    now = it.now;
    ends = it.ends;
    lasts = it.lasts;
    opens = λ t fine. same-two (λ a b. OpensTo (actuators catalogue) (digest_of catalogue) it.now.lasting a b) first' second' first second (same t) (it.opens (told t) fine);
    counted = λ t fine few.
        same-two (λ a b. OpensCleanly (actuators catalogue) (digest_of catalogue) it.now.lasting it.now.count a b) first' second' first second (same t) (it.counted (told t) fine few);
    torn = λ t.
        same-two (λ a b. OpensToSome (actuators catalogue) (digest_of catalogue) (LastsAfterSome (actuators catalogue) start it.read) a b) first' second' first second (same t) (it.torn (told t));
    images = all (OpensToSome (actuators catalogue) (digest_of catalogue) (LastsAfterSome (actuators catalogue) start it.read)) it.images;
  }

module _ (catalogue : Catalogue) (history : List Event) (told : List Item) (known : ℕ) (end : FollowEnd) (d : Persistent) (number : ℕ)
    (tells tells' : Type 0) (all_are all_are' : (List ℕ → List ℕ → Type 0) → Type 0) (first second first' second' : List ℕ) where
  own-as : (tells → tells') → ((Is : List ℕ → List ℕ → Type 0) → all_are' Is → all_are Is) → (tells → (first' ≡ first) × (second' ≡ second)) →
      CameOwn catalogue history told known end d number tells' all_are' first' second' → CameOwn catalogue history told known end d number tells all_are first second
  own-as tell all same it = record {
    follows = it.follows;
    many = it.many;
    are_read = it.are_read;
    counts = it.counts;
    leads = it.leads;
    torn = λ t.
        same-two (λ a b. OpensToSome (actuators catalogue) (digest_of catalogue) (IsAmong (actuators catalogue) history known (known_after known told it.many)) a b)
        first' second' first second (same t) (it.torn (tell t));
    images = all (OpensToSome (actuators catalogue) (digest_of catalogue) (IsAmong (actuators catalogue) history known (known_after known told it.many))) it.images;
  }

module _ (was now was' now' : Pair) where
  module _ {S K : Type 0} (s : source.Ghosts S) (k : sink.Ghosts K) (catalogue : Catalogue) (d : Persistent) (number : ℕ) (all_are all_are' : (List ℕ → List ℕ → Type 0) → Type 0) (old new : Streams S K) (status : ℕ)
      (tells : was.tells → was'.tells) (all : (Is : List ℕ → List ℕ → Type 0) → all_are' Is → all_are Is) (left : was.tells → (now'.first ≡ now.first) × (now'.second ≡ now.second))
      (rose : Rose was'.faults now'.faults → Rose was.faults now.faults) (stood : now'.faults ≡ was'.faults → now.faults ≡ was.faults) where
    -- of a pair only what it holds in the end, and its count, are told
    pub followed-so : Followed s k catalogue d number all_are' was' now' old new status → Followed s k catalogue d number all_are was now old new status
    followed-so it = record {
      end = it.end;
      lasting = it.lasting;
      count = it.count;
      tells = it.tells;
      read_fault = it.read_fault;
      disk_fault = λ failed. rose (it.disk_fault failed);
      no_disk_fault = λ fine. stood (it.no_disk_fault fine);
      own = λ st history told begins.
          own-as catalogue history told number it.end it.lasting it.count was.tells was'.tells all_are all_are' now.first now.second now'.first now'.second tells all left (it.own st history told begins);
      came = λ st. came-as catalogue _ _ _ it.end it.lasting it.count was.tells was'.tells all_are all_are' now.first now.second now'.first now'.second tells all left (it.came st);
    }

  module _ (so : Follows was now was' now') where
    pub feeds-so : {K : Type 0} (k : sink.Ghosts K) (catalogue : Catalogue) (from : ℕ) (old new : K) (status : ℕ) → FeedsOver k catalogue from was' now' old new status →
        FeedsOver k catalogue from was now old new status
    feeds-so k catalogue from old new status it = record {
      did = elim it.did [
        | inl refused ↦ inl (record {
          refusal = refused.refusal;
          of_bytes = refused.of_bytes;
          refuses = λ told. same-two (λ a b. OpenRefuses (actuators catalogue) (digest_of catalogue) a b refused.refusal) _ _ _ _ (so.began told) (refused.refuses (so.tells told));
          tells = refused.tells;
          faults = so.stood refused.faults;
        })
        | inr (inl done) ↦ inr (inl (record {
          status_is = done.status_is;
          told = λ told. let all = done.told (so.tells told) in record {
            base = all.base;
            before = all.before;
            events = all.events;
            stands = same-two (λ a b. StandsFor (actuators catalogue) (digest_of catalogue) all.base all.before all.events a b) _ _ _ _ (so.began told) all.stands;
            told = all.told;
          };
          sink = done.sink;
          faults = so.stood done.faults;
        }))
        | inr (inr broke) ↦ inr (inr (record {
          why = elim broke.why [
            | inl fault ↦ inl (fault.0, so.rose fault.1, fault.2)
            | inr (inl unwritten) ↦ inr (inl (unwritten.0, so.stood unwritten.1, unwritten.2))
            | inr (inr lack) ↦ inr (inr (lack.0, so.stood lack.1, lack.2))
          ];
          told = λ told written. elim (broke.told (so.tells told) written) [
            | inl silent ↦ inl silent
            | inr front ↦ inr (record {
              base = front.base;
              before = front.before;
              events = front.events;
              stands = same-two (λ a b. StandsFor (actuators catalogue) (digest_of catalogue) front.base front.before front.events a b) _ _ _ _ (so.began told) front.stands;
              told = front.told;
            })
          ];
        }))
      ];
      holds = holds-so was now was' now' so it.holds;
      images = looked-so was now was' now' so it.images;
    }

    pub follows-so : {S K : Type 0} (s : source.Ghosts S) (k : sink.Ghosts K) (catalogue : Catalogue) (old new : Streams S K) (status : ℕ) → FollowsOver s k catalogue was' now' old new status →
        FollowsOver s k catalogue was now old new status
    follows-so s k catalogue old new status it = elim it [
      | inl none ↦ inl (none-so was now was' now' so old new status none.0, λ told lasts. stands-so was now was' now' so catalogue told (none.1 (so.tells told) (so.lasts told lasts)))
      | inr (inl refused) ↦ inr (inl (refused-so was now was' now' so k catalogue old.sink new.sink status refused.0, refused.1))
      | inr (inr found) ↦ inr (inr (record {
        state = found.state;
        number = found.number;
        opened = λ told. same-two (λ a b. OpenedAt (actuators catalogue) (digest_of catalogue) a b found.state found.number) _ _ _ _ (so.began told) (found.opened (so.tells told));
        followed = followed-so s k catalogue found.state.persistent found.number
            (λ Is. was.tells → now.whole → WhileMoved (actuators catalogue) (digest_of catalogue) was.first was.second was.stories Is now.stories)
            (λ Is. was'.tells → now'.whole → WhileMoved (actuators catalogue) (digest_of catalogue) was'.first was'.second was'.stories Is now'.stories)
            old new status so.tells
            (λ Is moved told whole.
            moved-carried (actuators catalogue) (digest_of catalogue) was.first was.second was'.first was'.second (so.began told) Is
            was'.stories now'.stories was.stories now.stories (so.carries told whole) (moved (so.tells told) (so.whole told whole)))
            so.left so.rose so.stood found.followed;
      }))
    ]

-- ---- two disks in memory that hold nothing

pub new-follow : {D : Type 0} (d : disk.Ghosts D) (stores back : D × D) → d.tells → (d.reads stores.0 ≡ []) × (d.reads stores.1 ≡ []) →
    ((d.story stores.0).window ≡ settled (d.reads stores.0)) × ((d.story stores.1).window ≡ settled (d.reads stores.1)) → (d.faults stores.0 ≡ 0) × (d.faults stores.1 ≡ 0) →
    Follows (in_memory [] [] 0) (in_memory (d.reads back.0) (d.reads back.1) (d.faults back.0 + d.faults back.1)) (on_disks d stores) (on_disks d back)
new-follow d stores back told empty synced fresh =
    let none : d.faults stores.0 + d.faults stores.1 ≡ 0 = omega (arith, fresh.0, fresh.1) in
    record {
      tells = λ _. told;
      lasts = λ _ _. synced;
      began = λ _. empty;
      left = λ _. (refl, refl);
      rose = λ rose. subst (λ n. Rose n (d.faults back.0 + d.faults back.1)) none rose;
      stood = λ stood. stood ∙ none;
      whole = λ _ whole. absurd whole;
      carries = λ _ whole. absurd whole;
    }

pub new-so : {D S K : Type 0} (d : disk.Ghosts D) (s : source.Ghosts S) (k : sink.Ghosts K) (catalogue : Catalogue) (stores back : D × D) (old new : Streams S K) (over : ℕ) →
    FollowsOver s k catalogue (on_disks d stores) (on_disks d back) old new over → d.tells → (d.reads stores.0 ≡ []) × (d.reads stores.1 ≡ []) →
    ((d.story stores.0).window ≡ settled (d.reads stores.0)) × ((d.story stores.1).window ≡ settled (d.reads stores.1)) → (d.faults stores.0 ≡ 0) × (d.faults stores.1 ≡ 0) →
    (status : ℕ) → status ≡ (if over == 5 then 8 else over) → FollowsNew s k catalogue old new status
new-so d s k catalogue stores back old new over it told empty synced fresh status is = inr (record {
  first = d.reads back.0;
  second = d.reads back.1;
  faults = d.faults back.0 + d.faults back.1;
  over = over;
  follows = follows-so (in_memory [] [] 0) (in_memory (d.reads back.0) (d.reads back.1) (d.faults back.0 + d.faults back.1)) (on_disks d stores) (on_disks d back)
      (new-follow d stores back told empty synced fresh) s k catalogue old new over it;
  status_is = is;
})
