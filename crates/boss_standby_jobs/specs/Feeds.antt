-- Source: own.
-- The feed of a journal, by what two disks or a journal's two files hold.
use Rattle.std.specs.Prelude.{◌≡◌, ◌⊎◌, ℕ, List, ◌++◌}
use Rattle.boss_jobs.specs.Journals.{HoldSame, Pair}
use Rattle.boss_journal_lines.specs.Reports.{refusal_line}
use Rattle.boss_model.specs.Catalogue.{Catalogue, actuators}
use Rattle.boss_model.specs.declared.event.Event.{Event}
use Rattle.boss_model.specs.State.{Persistent}
use Rattle.boss_opening.specs.Opens.{digest_of, OpenRefuses, WhileLooked}
use Rattle.boss_outside.specs.Counts.{Rose}
use Rattle.boss_outside.specs.declared.sink.Sink as sink
use Rattle.boss_outside.specs.Streams.{TakesFront}
use Rattle.boss_pair_find.specs.declared.refusal.DurableRefusal.{DurableRefusal}
use Rattle.boss_pair_find.specs.Refusals.{IsOfBytes}
use Rattle.def_disk_pair.specs.Pairs.{StandsFor}
use Rattle.def_feed.specs.Feeds.{feed_text}

-- the pair stands for this state, so many events before it, and the events since
abbrev pub StandsUnder : Catalogue → Pair → Persistent → ℕ → List Event → Type 0
StandsUnder catalogue pair base before events = StandsFor (actuators catalogue) (digest_of catalogue) base before events pair.first pair.second

module _ {K : Type 0} (k : sink.Ghosts K) (catalogue : Catalogue) (from : ℕ) (was now : Pair) (old new : K) (status : ℕ) where
  -- It is refused for what it holds: one line tells it, with status 4, and no feed is told; or that line's write failed, which is 7, or no
  -- memory was to be had for it, which is 8.
  pub record RefusedFeed : Type 0 where
    pub refusal : DurableRefusal
    pub of_bytes : IsOfBytes refusal
    pub refuses : was.tells → OpenRefuses (actuators catalogue) (digest_of catalogue) was.first was.second refusal
    pub tells : ((status ≡ 4) × (k.tells → k.taken new ≡ k.taken old ++ refusal_line refusal) × (k.faults new ≡ k.faults old))
        ⊎ ((status ≡ 7) × (k.tells → TakesFront (k.taken old) (k.taken new) (refusal_line refusal)) × Rose (k.faults old) (k.faults new))
        ⊎ ((status ≡ 8) × (k.tells → k.taken new ≡ k.taken old) × (k.faults new ≡ k.faults old))
    pub faults : now.faults ≡ was.faults

  -- all of the feed of what it stands for was told
  pub record ToldAll : Type 0 where
    pub base : Persistent
    pub before : ℕ
    pub events : List Event
    pub stands : StandsUnder catalogue was base before events
    pub told : k.tells → k.taken new ≡ k.taken old ++ feed_text from base before events

  -- Its feed was told, with status 0. That of a new journal is empty.
  pub record ToldFeed : Type 0 where
    pub status_is : status ≡ 0
    pub told : was.tells → ToldAll
    pub sink : k.faults new ≡ k.faults old
    pub faults : now.faults ≡ was.faults

  -- a front of the feed of what it stands for was told
  pub record ToldFront : Type 0 where
    pub base : Persistent
    pub before : ℕ
    pub events : List Event
    pub stands : StandsUnder catalogue was base before events
    pub told : TakesFront (k.taken old) (k.taken new) (feed_text from base before events)

  -- A file or a disk failed, which is status 5, or a write, which is 7, or no memory was to be had, which is 8: nothing was told, or a
  -- front of the feed of what the journal stands for.
  pub record BrokeFeed : Type 0 where
    pub why : ((status ≡ 5) × Rose was.faults now.faults × (k.faults new ≡ k.faults old))
        ⊎ ((status ≡ 7) × (now.faults ≡ was.faults) × Rose (k.faults old) (k.faults new))
        ⊎ ((status ≡ 8) × (now.faults ≡ was.faults) × (k.faults new ≡ k.faults old))
    pub told : was.tells → k.tells → (k.taken new ≡ k.taken old) ⊎ ToldFront

  -- the feed of a journal, which holds what it held
  pub record FeedsOver : Type 0 where
    pub did : RefusedFeed ⊎ ToldFeed ⊎ BrokeFeed
    pub holds : was.tells → HoldSame was now
    -- what a crash may leave meanwhile
    pub images : was.tells → now.whole → WhileLooked was.stories now.stories
