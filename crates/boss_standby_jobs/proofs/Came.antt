-- What comes of a feed that was followed over an engine with its disks, by what these hold once they are back.
use Rattle.std.proofs.Common.{◌≡◌, inl, inr, true, false, ℕ, ◌<◌, Bool, List, length, refl, sym, ap, subst, ◌∙◌, arith}
use Rattle.boss_disk.specs.declared.disk.Disk as disk
use Rattle.boss_disk.specs.Story.{Story}
use Rattle.boss_disk.specs.Window.{IsImage}
use Rattle.boss_disk.specs.Legs.{Legs, LeaveBoth}
use Rattle.boss_disk.proofs.Legs.{legs_last, weaker_legs}
use Rattle.boss_disk_pair.specs.Causes.{Counts, counts_of, first_disk, OneRose, second_disk}
use Rattle.boss_disk_pair.specs.Images.{OpensTo, OpensToOne}
use Rattle.boss_disk_pair.specs.Orders.{first_of, second_of, stories_of}
use Rattle.boss_disk_pair.specs.Rests.{counted, rests, stories}
use Rattle.boss_durable.specs.declared.durable.Durable.{Durable}
use Rattle.boss_durable.specs.Words.{keeps, lasting, leaves}
use Rattle.boss_durable.proofs.Doing.{keeps_leaves}
use Rattle.boss_following.specs.declared.stop.FollowEnd.{FollowEnd}
use Rattle.boss_following.specs.declared.stop.FollowEnd.TheVariants as end
use Rattle.boss_following.specs.Ends.{DiskCause, EndsAt, FollowedFeed, has_failed, LastsAfterSome, OpensToSome, Runs, start_of, was_stopped}
use Rattle.boss_following.specs.Owns.{FollowedOwn, IsAmong, known_after}
use Rattle.boss_jobs.specs.Journals.{on_disks}
use Rattle.boss_jobs.proofs.OpenedLemmas.{many-events, some-events, within-last}
use Rattle.boss_jobs.proofs.Refusals.{both, one-rose}
use Rattle.boss_jobs.proofs.RunLemmas.{one-as, opens-as}
use Rattle.boss_model.specs.Catalogue.{Catalogue, actuators}
use Rattle.boss_model.specs.declared.event.Event.{Event}
use Rattle.boss_model.specs.declared.state.Actuator.{Actuator}
use Rattle.boss_model.specs.Limits.{last_number}
use Rattle.boss_model.specs.State.{Persistent}
use Rattle.boss_opening.specs.Opens.{digest_of}
use Rattle.boss_outside.specs.Counts.{Rose}
use Rattle.boss_pair_find.specs.Two.{two}
use Rattle.boss_pair_find.proofs.Orders.{stories_are}
use Rattle.boss_standby_jobs.specs.Followings.{CameOwn, CameTo}
use Rattle.def_disk_pair.specs.Pairs.{OpensCleanly}
use Rattle.def_feed.specs.Histories.{IsAfter}
use Rattle.def_feed.specs.Items.{Item}

-- ---- causes

wrong : {P : Type 0} → true ≡ false → P
wrong e = absurd cc

-- a disk fault is that of this call, where none came before
pub disk-rose : (end : FollowEnd) (before now : Counts) → was_stopped end ≡ false → DiskCause before now end → has_failed end ≡ true → Rose (both before) (both now)
disk-rose end.DiskFault before now going cause failed = one-rose before now cause
disk-rose end.Stopped before now going cause failed = wrong going
disk-rose end.End before now going cause failed = wrong (sym failed)
disk-rose end.Short before now going cause failed = wrong (sym failed)
disk-rose (end.Gap have found) before now going cause failed = wrong (sym failed)
disk-rose (end.BadLine line) before now going cause failed = wrong (sym failed)
disk-rose end.TooLong before now going cause failed = wrong (sym failed)
disk-rose end.Limit before now going cause failed = wrong (sym failed)
disk-rose end.ReadFault before now going cause failed = wrong (sym failed)
disk-rose end.NoMemory before now going cause failed = wrong (sym failed)

pub disk-stood : (end : FollowEnd) (before now : Counts) → DiskCause before now end → has_failed end ≡ false → both now ≡ both before
disk-stood end.DiskFault before now cause fine = wrong fine
disk-stood end.Stopped before now cause fine = wrong fine
disk-stood end.End before now cause fine = ap both cause
disk-stood end.Short before now cause fine = ap both cause
disk-stood (end.Gap have found) before now cause fine = ap both cause
disk-stood (end.BadLine line) before now cause fine = ap both cause
disk-stood end.TooLong before now cause fine = ap both cause
disk-stood end.Limit before now cause fine = ap both cause
disk-stood end.ReadFault before now cause fine = ap both cause
disk-stood end.NoMemory before now cause fine = ap both cause

-- ---- disks that came back

one-state : (plant : List Actuator) (digest : List ℕ) (d : Persistent) (first second : List ℕ) → OpensToOne plant digest d d first second → OpensTo plant digest d first second
one-state plant digest d first second it = elim it [ inl one ↦ one | inr other ↦ other ]

some-as : (p p' : List Actuator) (g g' : List ℕ) (Is Is' : Persistent → Type 0) (a b a' b' : List ℕ) → p ≡ p' → g ≡ g' → a ≡ a' → b ≡ b' →
    ((d : Persistent) → Is d → Is' d) → OpensToSome p g Is a b → OpensToSome p' g' Is' a' b'
some-as p p' g g' Is Is' a b a' b' e f h i go it = (
  it.0,
  go it.0 it.1,
  subst (λ (q : List Actuator × List ℕ × List ℕ × List ℕ). OpensTo q.0 q.1 it.0 q.2 q.3) (λ j. (e j, f j, h j, i j)) it.2,
)

module _ {D : Type 0} (d : disk.Ghosts D) where
  -- each disk reads one of its images
  both-images : (second : Bool) (active spare : D) → ((disk : D) → IsImage (d.story disk).window (d.reads disk)) →
      IsImage (stories_of second (d.story active) (d.story spare)).first.window (d.reads (first_of second active spare))
      × IsImage (stories_of second (d.story active) (d.story spare)).second.window (d.reads (second_of second active spare))
  both-images false active spare each = (each active, each spare)
  both-images true active spare each = (each spare, each active)

  -- the events that disks at rest are said to have are as many as they count
  kept-counts : (durable : Durable D d) (events : List Event) → keeps durable events → d.tells → counted (length events) ≡ durable.disks.events
  unfolding keeps rests
  kept-counts durable events held told = (held told).counts

  -- those of a value at rest open to what lasts of it, and others to what they may leave
  pub record Closed (durable : Durable D d) (disks : D × D) : Type 0 where
    pub parts : (disks.0 ≡ first_disk durable.disks) × (disks.1 ≡ second_disk durable.disks)
    pub opens : d.tells → (events : List Event) → keeps durable events → length events < last_number →
        OpensCleanly durable.engine.plant durable.disks.digest (lasting durable) (length events) (d.reads disks.0) (d.reads disks.1)
    pub left : d.tells → (a b : Persistent) → leaves durable a b → OpensToOne durable.engine.plant durable.disks.digest a b (d.reads disks.0) (d.reads disks.1)

  pub counts-so : (durable : Durable D d) (disks : D × D) → Closed durable disks → (on_disks d disks).faults ≡ both (counts_of durable.disks)
  counts-so durable disks closed = λ i. both (record { first = d.faults (closed.parts.0 i); second = d.faults (closed.parts.1 i) })

  module _ (catalogue : Catalogue) (old new : Durable D d) (disks : D × D)
      (plant : old.engine.plant ≡ actuators catalogue) (digest : old.disks.digest ≡ digest_of catalogue)
      (held : (any : List Event) → counted (length any) ≡ old.disks.events → keeps old any)
      (same_plant : new.engine.plant ≡ old.engine.plant) (same_digest : new.disks.digest ≡ old.disks.digest)
      (closed : Closed new disks) (images : (disk : D) → d.tells → IsImage (d.story disk).window (d.reads disk))
      (bytes left : List ℕ) (end : FollowEnd) (feed : FollowedFeed old new bytes left end) where
    abbrev any : List Event
    any = some-events old.disks.events

    kept : keeps old any
    kept = held any (ap counted (many-events old.disks.events) ∙ within-last old.disks.events old.disks.few)

    of_catalogue : new.engine.plant ≡ actuators catalogue
    of_catalogue = same_plant ∙ plant

    under_digest : new.disks.digest ≡ digest_of catalogue
    under_digest = same_digest ∙ digest

    -- what the disks hold in the end is an image of theirs
    left-so : d.tells → (Is Is' : Persistent → Type 0) → ((e : Persistent) → Is e → Is' e) → Runs Is old new →
        OpensToSome (actuators catalogue) (digest_of catalogue) Is' (d.reads disks.0) (d.reads disks.1)
    left-so told Is Is' go runs =
        let last = legs_last runs in
        let both = both-images new.disks.second new.disks.journal.disk new.disks.spare (λ disk. images disk told) in
        some-as old.engine.plant (actuators catalogue) old.disks.digest (digest_of catalogue) Is Is'
        (d.reads (first_disk new.disks)) (d.reads (second_disk new.disks)) (d.reads disks.0) (d.reads disks.1)
        plant digest (ap d.reads (sym closed.parts.0)) (ap d.reads (sym closed.parts.1)) go
        (last (d.reads (first_disk new.disks)) (d.reads (second_disk new.disks)) both.0 both.1)

    -- while it ran each image was of a kind
    runs-so : d.tells → (Is Is' : Persistent → Type 0) → ((e : Persistent) → Is e → Is' e) → Runs Is old new →
        Legs (LeaveBoth (OpensToSome (actuators catalogue) (digest_of catalogue) Is')) (stories old.disks) (two (d.story disks.0) (d.story disks.1))
    runs-so told Is Is' go runs =
        subst (λ at. Legs (LeaveBoth (OpensToSome (actuators catalogue) (digest_of catalogue) Is')) (stories old.disks) at)
        (stories_are d.story new.disks.second new.disks.journal.disk new.disks.spare ∙ (λ i. two (d.story (sym closed.parts.0 i)) (d.story (sym closed.parts.1 i))))
        (weaker_legs
        (λ first second leave a b at there. some-as old.engine.plant (actuators catalogue) old.disks.digest (digest_of catalogue) Is Is' a b a b plant digest refl refl go (leave a b at there)) runs)

    abbrev all_are : (List ℕ → List ℕ → Type 0) → Type 0
    all_are Is = d.tells → Legs (LeaveBoth Is) (stories old.disks) (two (d.story disks.0) (d.story disks.1))

    pub came-so : CameTo catalogue (start_of old) bytes left end (lasting new) new.disks.events d.tells all_are (d.reads disks.0) (d.reads disks.1)
    came-so = record {
      now = feed.now;
      read = feed.read;
      unread = feed.unread;
      all = feed.all;
      ends = subst (λ p. EndsAt p (start_of old) bytes left feed.read feed.now end) plant feed.ends;
      lasts = feed.lasts;
      opens = λ told fine.
          let rest = feed.keeps_on any kept fine in
          let lasts = (feed.lasts fine).0 in
          one-state (actuators catalogue) (digest_of catalogue) feed.now.lasting (d.reads disks.0) (d.reads disks.1)
          (one-as new.engine.plant (actuators catalogue) new.disks.digest (digest_of catalogue) (lasting new) feed.now.lasting (lasting new) feed.now.lasting (d.reads disks.0) (d.reads disks.1)
          of_catalogue under_digest lasts lasts
          (closed.left told (lasting new) (lasting new) (keeps_leaves new rest.0 rest.1)));
      counted = λ told fine few.
          let rest = feed.keeps_on any kept fine in
          let is : counted (length rest.0) ≡ feed.now.count = kept-counts new rest.0 rest.1 told ∙ (feed.lasts fine).1 in
          let same : length rest.0 ≡ feed.now.count = omega (arith, is, few) in
          opens-as new.engine.plant (actuators catalogue) new.disks.digest (digest_of catalogue) (lasting new) feed.now.lasting (length rest.0) feed.now.count (d.reads disks.0) (d.reads disks.1)
          of_catalogue under_digest (feed.lasts fine).0 same
          (closed.opens told rest.0 rest.1 (subst (λ n. n < last_number) (sym same) few));
      torn = λ told.
          left-so told (LastsAfterSome old.engine.plant (start_of old) feed.read) (LastsAfterSome (actuators catalogue) (start_of old) feed.read)
          (λ e after. subst (λ p. LastsAfterSome p (start_of old) feed.read e) plant after) (feed.images told any kept);
      images = λ told.
          runs-so told (LastsAfterSome old.engine.plant (start_of old) feed.read) (LastsAfterSome (actuators catalogue) (start_of old) feed.read)
          (λ e after. subst (λ p. LastsAfterSome p (start_of old) feed.read e) plant after) (feed.images told any kept);
    }

    pub own-so : (history : List Event) (told : List Item) → FollowedOwn history told old new end →
        CameOwn catalogue history told old.disks.events end (lasting new) new.disks.events d.tells all_are (d.reads disks.0) (d.reads disks.1)
    own-so history told own =
        let least = old.disks.events in
        let most = known_after least told own.many in
        record {
          follows = own.follows;
          many = own.many;
          are_read = own.are_read;
          counts = own.counts;
          leads = λ fine. subst (λ p. IsAfter p history new.disks.events (lasting new)) plant (own.leads fine);
          torn = λ told'.
              left-so told' (IsAmong old.engine.plant history least most) (IsAmong (actuators catalogue) history least most)
              (λ e among. subst (λ p. IsAmong p history least most e) plant among) (own.images told' any kept);
          images = λ told'.
              runs-so told' (IsAmong old.engine.plant history least most) (IsAmong (actuators catalogue) history least most)
              (λ e among. subst (λ p. IsAmong p history least most e) plant among) (own.images told' any kept);
        }
