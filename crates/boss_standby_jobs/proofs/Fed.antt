-- A feed that was told, by its answer.
use Rattle.std.proofs.Common.{◌≡◌, ◌⊎◌, inl, inr, ℕ, List, ◌++◌, Result, Ok, Err, IfErr, IfOk, refl, sym, ap, subst, ◌∙◌, arith}
use Rattle.boss_disk_pair.specs.Causes.{Counts}
use Rattle.boss_feeding.specs.declared.fault.FeedFault.{FeedFault}
use Rattle.boss_feeding.specs.declared.fault.FeedFault.TheVariants.{Refused, WriteFault}
use Rattle.boss_feeding.specs.Faults.{DisksCause, SinkCause}
use Rattle.boss_feeding.specs.Refusals.{FeedRefuses, IsOfPair}
use Rattle.boss_jobs.specs.Jobs.{TellsLine}
use Rattle.boss_jobs.specs.Journals.{HoldSame, Pair}
use Rattle.boss_jobs.proofs.Refusals.{both, one-rose}
use Rattle.boss_journal_lines.specs.Reports.{refusal_line}
use Rattle.boss_model.specs.Catalogue.{Catalogue, actuators}
use Rattle.boss_model.specs.declared.event.Event.{Event}
use Rattle.boss_model.specs.State.{Persistent}
use Rattle.boss_opening.specs.Opens.{digest_of, OpenRefuses, WhileLooked}
use Rattle.boss_outside.specs.Counts.{Rose}
use Rattle.boss_outside.specs.declared.sink.Sink as sink
use Rattle.boss_outside.specs.Streams.{TakesFront, Writes}
use Rattle.boss_pair_find.specs.declared.refusal.DurableRefusal.{DurableRefusal}
use Rattle.boss_pair_find.specs.declared.refusal.DurableRefusal.TheVariants as refusal
use Rattle.boss_pair_find.specs.Refusals.{IsOfBytes}
use Rattle.boss_standby_jobs.specs.Feeds.{BrokeFeed, FeedsOver, RefusedFeed, StandsUnder, ToldFeed}
use Rattle.boss_standby_jobs.specs.Telling.{TellsFed}
use Rattle.def_feed.specs.Feeds.{feed_text}

module _ {K : Type 0} (k : sink.Ghosts K) (catalogue : Catalogue) (from : ℕ) (was now : Pair) (old mid new : K) (status : ℕ) (before after : Counts)
    (counted : was.faults ≡ both before) (recounted : now.faults ≡ both after) where
  stood : after ≡ before → now.faults ≡ was.faults
  stood same = let s : both after ≡ both before = ap both same in omega arith

  -- the pair is refused, and one line is told behind a sink that took nothing
  refused-so : (why : DurableRefusal) → IsOfBytes why → (was.tells → OpenRefuses (actuators catalogue) (digest_of catalogue) was.first was.second why) →
      (k.tells → k.taken mid ≡ k.taken old) → k.faults mid ≡ k.faults old → now.faults ≡ was.faults → TellsLine k (refusal_line why) 4 mid new status →
      RefusedFeed k catalogue from was now old new status
  refused-so why of refuses silent fine same tells = record {
    refusal = why;
    of_bytes = of;
    refuses = refuses;
    tells = elim tells [
      | inl said ↦ inl (said.0, λ t. said.1 t ∙ ap (λ xs. xs ++ refusal_line why) (silent t), said.2 ∙ fine)
      | inr (inl failed) ↦ inr (inl (
        failed.0,
        λ t. subst (λ xs. TakesFront xs (k.taken new) (refusal_line why)) (silent t) (failed.1 t),
        subst (λ n. Rose n (k.faults new)) fine failed.2,
      ))
      | inr (inr lack) ↦ inr (inr (lack.0, λ t. ap k.taken lack.1 ∙ silent t, ap k.faults lack.1 ∙ fine))
    ];
    faults = same;
  }

  -- what the sink took of a feed
  abbrev Took : Result Unit FeedFault → Type 0
  Took fed = was.tells → k.tells → (base : Persistent) (number : ℕ) (events : List Event) → StandsUnder catalogue was base number events
      → Writes (k.taken old) (k.taken mid) (feed_text from base number events) fed

  abbrev Stands : Type 0
  Stands = (base : Persistent) × (number : ℕ) × (events : List Event) × StandsUnder catalogue was base number events

  -- the feed broke off, and nothing was told behind it
  broke-so : ((status ≡ 5) × Rose was.faults now.faults × (k.faults new ≡ k.faults old))
      ⊎ ((status ≡ 7) × (now.faults ≡ was.faults) × Rose (k.faults old) (k.faults new))
      ⊎ ((status ≡ 8) × (now.faults ≡ was.faults) × (k.faults new ≡ k.faults old)) →
      (why : FeedFault) → Took (Err why) → (was.tells → (k.tells → k.taken mid ≡ k.taken old) ⊎ Stands) → new ≡ mid → BrokeFeed k catalogue from was now old new status
  broke-so why fault took broke untold = record {
    why = why;
    told = λ t kt. elim (broke t) [
      | inl silent ↦ inl (ap k.taken untold ∙ silent kt)
      | inr found ↦ inr (record {
        base = found.0;
        before = found.1;
        events = found.2;
        stands = found.3;
        told = subst (λ x. TakesFront (k.taken old) (k.taken x) (feed_text from found.0 found.1 found.2)) (sym untold) (took t kt found.0 found.1 found.2 found.3);
      })
    ];
  }

  pub fed-so : (fed : Result Unit FeedFault) → Took fed → (was.tells → IfOk fed (λ _. Stands)) →
      (was.tells → IfErr fed (λ _. (k.tells → k.taken mid ≡ k.taken old) ⊎ Stands)) →
      (was.tells → IfErr fed (FeedRefuses (actuators catalogue) (digest_of catalogue) was.first was.second)) →
      (k.tells → IfErr fed (λ fault. IsOfPair fault → k.taken mid ≡ k.taken old)) →
      DisksCause before after fed → SinkCause (k.faults old) (k.faults mid) fed → TellsFed k fed mid new status →
      RefusedFeed k catalogue from was now old new status ⊎ ToldFeed k catalogue from was now old new status ⊎ BrokeFeed k catalogue from was now old new status
  fed-so (Ok done) took stands broke refuses silent cause fault told = inr (inl (record {
    status_is = told.0;
    told = λ t. let found = stands t in record {
      base = found.0;
      before = found.1;
      events = found.2;
      stands = found.3;
      told = λ kt. ap k.taken told.1 ∙ took t kt found.0 found.1 found.2 found.3;
    };
    sink = ap k.faults told.1 ∙ fault;
    faults = stood cause;
  }))
  fed-so (Err (Refused refusal.NotAJournal)) took stands broke refuses silent cause fault told =
      inl (refused-so refusal.NotAJournal tt refuses (λ t. silent t tt) fault (stood cause) told)
  fed-so (Err (Refused (refusal.Version found))) took stands broke refuses silent cause fault told =
      inl (refused-so (refusal.Version found) tt refuses (λ t. silent t tt) fault (stood cause) told)
  fed-so (Err (Refused (refusal.Catalogue kept found))) took stands broke refuses silent cause fault told =
      inl (refused-so (refusal.Catalogue kept found) tt refuses (λ t. silent t tt) fault (stood cause) told)
  fed-so (Err (Refused (refusal.Damaged place))) took stands broke refuses silent cause fault told =
      inl (refused-so (refusal.Damaged place) tt refuses (λ t. silent t tt) fault (stood cause) told)
  fed-so (Err (Refused refusal.DiskFault)) took stands broke refuses silent cause fault told =
      let rose : Rose (both before) (both after) = one-rose before after cause in
      inr (inr (broke-so (inl (told.0, omega arith, ap k.faults told.1 ∙ fault)) (Refused refusal.DiskFault) took broke told.1))
  fed-so (Err (Refused refusal.NoMemory)) took stands broke refuses silent cause fault told =
      inr (inr (broke-so (inr (inr (told.0, stood cause, ap k.faults told.1 ∙ fault))) (Refused refusal.NoMemory) took broke told.1))
  fed-so (Err WriteFault) took stands broke refuses silent cause fault told =
      inr (inr (broke-so (inr (inl (told.0, stood cause, subst (λ x. Rose (k.faults old) (k.faults x)) (sym told.1) fault))) WriteFault took broke told.1))

-- the journal was not opened: nothing is told
pub none-fed : {K : Type 0} (k : sink.Ghosts K) (catalogue : Catalogue) (from : ℕ) (was now : Pair) (old : K) (status : ℕ) →
    ((status ≡ 5) × Rose was.faults now.faults) ⊎ ((status ≡ 8) × (now.faults ≡ was.faults)) → (was.tells → HoldSame was now) →
    (was.tells → now.whole → WhileLooked was.stories now.stories) → FeedsOver k catalogue from was now old old status
none-fed k catalogue from was now old status why holds looked = record {
  did = inr (inr (record {
    why = elim why [ inl fault ↦ inl (fault.0, fault.1, refl) | inr lack ↦ inr (inr (lack.0, lack.1, refl)) ];
    told = λ t kt. inl refl;
  }));
  holds = holds;
  images = looked;
}
