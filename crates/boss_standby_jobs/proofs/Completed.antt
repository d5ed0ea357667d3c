-- The jobs, by how they ended.
use Rattle.std.proofs.Common.{◌≡◌, ◌≢◌, ◌⊎◌, inl, inr, true, false, ℕ, ◌==◌, if◌then◌else◌, List, [], ◌∷◌, refl, ap, subst, ◌∙◌, arith}
use Rattle.boss_files.specs.declared.files.Files as files
use Rattle.boss_files.specs.Names.{second_name}
use Rattle.boss_following.specs.declared.stop.FollowEnd.{FollowEnd}
use Rattle.boss_following.specs.declared.stop.FollowEnd.TheVariants as end
use Rattle.boss_following.specs.Ends.{has_failed, ReadCause}
use Rattle.boss_jobs.specs.Checks.{KeepsFiles}
use Rattle.boss_jobs.specs.Jobs.{HadNoCatalogue, RefusedCatalogue, TellsLine, World}
use Rattle.boss_jobs.specs.Journals.{AsksFront, in_files, IsRefused, Pair}
use Rattle.boss_jobs.proofs.KeptLemmas.{no-catalogue-fine, not-refused, one-catalogue}
use Rattle.boss_model.specs.Catalogue.{Catalogue, actuators}
use Rattle.boss_model.specs.declared.state.Actuator.{Actuator}
use Rattle.boss_model.specs.State.{Persistent}
use Rattle.boss_opening.specs.Opens.{digest_of, OpenRefuses}
use Rattle.boss_outside.specs.Counts.{Rose}
use Rattle.boss_outside.specs.declared.actuators.Actuators as actuators_of
use Rattle.boss_outside.specs.declared.sink.Sink as sink
use Rattle.boss_outside.specs.declared.source.Source as source
use Rattle.boss_pair_find.specs.declared.refusal.DurableRefusal.{DurableRefusal}
use Rattle.boss_pair_find.specs.declared.refusal.DurableRefusal.TheVariants as refusal
use Rattle.boss_pair_find.specs.Refusals.{IsOfBytes}
use Rattle.boss_standby_jobs.specs.FeedJobs.{FedKept, FedNothing, FeedsJournal, FeedsMemory}
use Rattle.boss_standby_jobs.specs.Feeds.{FeedsOver}
use Rattle.boss_standby_jobs.specs.Followings.{FollowedNew, FollowsNew, FollowsOver, in_memory, Streams}
use Rattle.boss_standby_jobs.specs.StandbyJobs.{DoesStandby, FollowedKept, FollowedMemory, IsFollowed, StandbyMemory}
use Rattle.boss_standby_jobs.specs.Telling.{TellsEnd}
use Rattle.def_log.specs.InForce.{Foreign, Neither}

-- ---- a feed

feeds-fine : {K : Type 0} (k : sink.Ghosts K) (catalogue : Catalogue) (from : ℕ) (was now : Pair) (old new : K) (status : ℕ) → FeedsOver k catalogue from was now old new status →
    was.tells → ((refusal : DurableRefusal) → IsRefused catalogue was refusal → ⊥) → ¬ Rose was.faults now.faults → ¬ Rose (k.faults old) (k.faults new) → (status ≡ 0) ⊎ (status ≡ 8)
feeds-fine k catalogue from was now old new status it told opens fine fine' = elim it.did [
  | inl refused ↦ absurd (opens refused.refusal (refused.of_bytes, refused.refuses told))
  | inr (inl done) ↦ inl done.status_is
  | inr (inr broke) ↦ elim broke.why [ inl fault ↦ absurd (fine fault.1) | inr (inl unwritten) ↦ absurd (fine' unwritten.2) | inr (inr lack) ↦ inr lack.0 ]
]

module _ {F D S K A : Type 0} (f : files.Ghosts F D) (s : source.Ghosts S) (k : sink.Ghosts K) (a : actuators_of.Ghosts A) (old new : World F S K A) (status : ℕ) (name : List ℕ) (count : ℕ) where
  pub feeds-kept : (journal : List ℕ) (from : ℕ) →
      HadNoCatalogue f s k a old new status ⊎ RefusedCatalogue f s k a name count old new status ⊎ FedKept f s k a name journal from count old new status →
      KeepsFiles f old.files new.files → new.source ≡ old.source → new.devices ≡ old.devices →
      (f.tells → AsksFront (name ∷ journal ∷ second_name journal ∷ []) (f.asked old.files) (f.asked new.files)) → FeedsJournal f s k a name journal from count old new status
  feeds-kept journal from did keeps source devices asks = record {
    did = did;
    keeps = keeps;
    source = source;
    devices = devices;
    asks = asks;
    complete = λ catalogue file tells holds used opens fine fine'. elim did [
      | inl none ↦ no-catalogue-fine f s k a old new status none fine
      | inr (inl refused) ↦ not-refused f s k a old new status name count catalogue file tells holds used refused
      | inr (inr fed) ↦
          let same : fed.catalogue ≡ catalogue = one-catalogue f s k a old new status name count catalogue fed.catalogue file holds used (fed.spells tells) in
          feeds-fine k fed.catalogue from _ _ old.sink new.sink status fed.feeds tells
          (λ refusal refused. opens refusal (subst (λ c. IsRefused c (in_files f journal old.files) refusal) same refused)) fine fine'
    ];
  }

  pub feeds-memory : HadNoCatalogue f s k a old new status ⊎ RefusedCatalogue f s k a name count old new status ⊎ FedNothing f s k a name count old new status →
      KeepsFiles f old.files new.files → new.source ≡ old.source → new.devices ≡ old.devices →
      (f.tells → AsksFront (name ∷ []) (f.asked old.files) (f.asked new.files)) → FeedsMemory f s k a name count old new status
  feeds-memory did keeps source devices asks = record {
    did = did;
    keeps = keeps;
    source = source;
    devices = devices;
    asks = asks;
    complete = λ catalogue file tells holds used fine. elim did [
      | inl none ↦ no-catalogue-fine f s k a old new status none fine
      | inr (inl refused) ↦ not-refused f s k a old new status name count catalogue file tells holds used refused
      | inr (inr fed) ↦ inl fed.status_is
    ];
  }

-- ---- a standby

all-done : (status : ℕ) → (status ≡ 0) ⊎ (status ≡ 8) → IsFollowed status
all-done status it = elim it [ inl done ↦ inl done | inr lack ↦ inr (inr (inr (inr lack))) ]

module _ {S K : Type 0} (s : source.Ghosts S) (k : sink.Ghosts K) (old new : Streams S K) (status : ℕ)
    (fine : ¬ Rose (s.faults old.source) (s.faults new.source)) (fine' : ¬ Rose (k.faults old.sink) (k.faults new.sink)) where
  line-done : (line : List ℕ) (told : ℕ) → TellsLine k line told old.sink new.sink status → (status ≡ told) ⊎ (status ≡ 8)
  line-done line told tells = elim tells [ inl said ↦ inl said.0 | inr (inl failed) ↦ absurd (fine' failed.2) | inr (inr lack) ↦ inr lack.0 ]

  by-line : (line : List ℕ) → TellsLine k line 18 old.sink new.sink status → IsFollowed status
  by-line line tells = elim (line-done line 18 tells) [ inl told ↦ inr (inl told) | inr lack ↦ inr (inr (inr (inr lack))) ]

  -- an end, where neither the source nor the sink failed
  end-done : (end : FollowEnd) (count : ℕ) (d : Persistent) → TellsEnd k end count d old.sink new.sink status → ReadCause (s.faults old.source) (s.faults new.source) end →
      ((status ≡ 5) × (has_failed end ≡ true)) ⊎ IsFollowed status
  end-done end.End count d tells read = inr (all-done status (line-done _ 0 tells))
  end-done (end.Gap have found) count d tells read = inr (by-line _ tells)
  end-done (end.BadLine line) count d tells read = inr (by-line _ tells)
  end-done end.Short count d tells read = inr (by-line _ tells)
  end-done end.TooLong count d tells read = inr (inr (inr (inl tells.0)))
  end-done end.Limit count d tells read = inr (inr (inr (inr (inl tells.0))))
  end-done end.ReadFault count d tells read = absurd (fine read)
  end-done end.DiskFault count d tells read = inl (tells.0, refl)
  end-done end.NoMemory count d tells read = inr (inr (inr (inr (inr tells.0))))
  end-done end.Stopped count d tells read = inl (tells.0, refl)

  follows-done : (catalogue : Catalogue) (was now : Pair) → FollowsOver s k catalogue was now old new status → was.tells → ((refusal : DurableRefusal) → IsRefused catalogue was refusal → ⊥) →
      ((status ≡ 5) × Rose was.faults now.faults) ⊎ IsFollowed status
  follows-done catalogue was now it told opens = elim it [
    | inl none ↦ elim none.0.why [ inl fault ↦ inl fault | inr lack ↦ inr (inr (inr (inr (inr lack.0)))) ]
    | inr (inl refused) ↦ absurd (opens refused.0.refusal (refused.0.of_bytes, refused.0.refuses told))
    | inr (inr found) ↦
        let f = found.followed in
        elim (end-done f.end f.count f.lasting f.tells f.read_fault) [ inl broke ↦ inl (broke.0, f.disk_fault broke.1) | inr done ↦ inr done ]
  ]

-- ---- disks that hold nothing

-- they are not refused for what they hold
empty-opens : (plant : List Actuator) (digest : List ℕ) (why : DurableRefusal) → IsOfBytes why → OpenRefuses plant digest [] [] why → ⊥
empty-opens plant digest refusal.NotAJournal of refuses = elim refuses [
  | inl foreign ↦ (let clash : Neither ≡ Foreign = foreign in absurd cc)
  | inr other ↦ other.1 (inl (omega arith))
]
empty-opens plant digest (refusal.Version found) of refuses = refuses
empty-opens plant digest (refusal.Catalogue kept found) of refuses = refuses
empty-opens plant digest (refusal.Damaged place) of refuses = elim refuses [ inl front ↦ front | inr (inl unsound) ↦ unsound.1.3 | inr (inr damaged) ↦ damaged ]
empty-opens plant digest refusal.DiskFault of refuses = of
empty-opens plant digest refusal.NoMemory of refuses = of

-- the status of a journal in memory alone
abbrev told-in_memory : ℕ → ℕ
told-in_memory over = if over == 5 then 8 else over

as-in_memory : (over status : ℕ) → status ≡ told-in_memory over → (over ≡ 5) ⊎ IsFollowed over → IsFollowed status
as-in_memory over status is it = elim it [
  | inl broke ↦ inr (inr (inr (inr (is ∙ ap told-in_memory broke))))
  | inr (inl done) ↦ inl (is ∙ ap told-in_memory done)
  | inr (inr (inl stopped)) ↦ inr (inl (is ∙ ap told-in_memory stopped))
  | inr (inr (inr (inl long))) ↦ inr (inr (inl (is ∙ ap told-in_memory long)))
  | inr (inr (inr (inr (inl many)))) ↦ inr (inr (inr (inl (is ∙ ap told-in_memory many))))
  | inr (inr (inr (inr (inr lack)))) ↦ inr (inr (inr (inr (is ∙ ap told-in_memory lack))))
]

new-done : {S K : Type 0} (s : source.Ghosts S) (k : sink.Ghosts K) (catalogue : Catalogue) (old new : Streams S K) (status : ℕ) → FollowsNew s k catalogue old new status →
    ¬ Rose (s.faults old.source) (s.faults new.source) → ¬ Rose (k.faults old.sink) (k.faults new.sink) → IsFollowed status
new-done s k catalogue old new status it fine fine' = elim it [
  | inl lack ↦ inr (inr (inr (inr lack.0)))
  | inr found ↦
      as-in_memory found.over status found.status_is
      (elim (follows-done s k old new found.over fine fine' catalogue _ _ found.follows tt (λ why refused. empty-opens (actuators catalogue) (digest_of catalogue) why refused.0 refused.1)) [
        | inl broke ↦ inl broke.0
        | inr done ↦ inr done
      ])
]

-- ---- the jobs of a standby

module _ {F D S K A : Type 0} (f : files.Ghosts F D) (s : source.Ghosts S) (k : sink.Ghosts K) (a : actuators_of.Ghosts A) (old new : World F S K A) (status : ℕ) (name : List ℕ) (count : ℕ) where
  pub does-standby : (journal : List ℕ) →
      HadNoCatalogue f s k a old new status ⊎ RefusedCatalogue f s k a name count old new status ⊎ FollowedKept f s k a name journal count old new status →
      new.devices ≡ old.devices →
      (f.tells → AsksFront (name ∷ journal ∷ second_name journal ∷ []) (f.asked old.files) (f.asked new.files)) →
      (f.tells → (file : List ℕ) → file ≢ journal → file ≢ second_name journal → f.holds new.files file ≡ f.holds old.files file) → DoesStandby f s k a name journal count old new status
  does-standby journal did devices asks others = record {
    did = did;
    devices = devices;
    asks = asks;
    others = others;
    complete = λ catalogue file tells holds used opens fine fine' fine''. elim did [
      | inl none ↦ all-done status (no-catalogue-fine f s k a old new status none fine)
      | inr (inl refused) ↦ not-refused f s k a old new status name count catalogue file tells holds used refused
      | inr (inr kept) ↦
          let same : kept.catalogue ≡ catalogue = one-catalogue f s k a old new status name count catalogue kept.catalogue file holds used (kept.spells tells) in
          elim (follows-done s k _ _ status fine' fine'' kept.catalogue _ _ kept.follows tells
          (λ refusal refused. opens refusal (subst (λ c. IsRefused c (in_files f journal old.files) refusal) same refused))) [
            | inl broke ↦ absurd (fine broke.1)
            | inr done ↦ done
          ]
    ];
  }

  pub standby-memory : HadNoCatalogue f s k a old new status ⊎ RefusedCatalogue f s k a name count old new status ⊎ FollowedMemory f s k a name count old new status →
      KeepsFiles f old.files new.files → new.devices ≡ old.devices →
      (f.tells → AsksFront (name ∷ []) (f.asked old.files) (f.asked new.files)) → StandbyMemory f s k a name count old new status
  standby-memory did keeps devices asks = record {
    did = did;
    keeps = keeps;
    devices = devices;
    asks = asks;
    complete = λ catalogue file tells holds used fine fine' fine''. elim did [
      | inl none ↦ all-done status (no-catalogue-fine f s k a old new status none fine)
      | inr (inl refused) ↦ not-refused f s k a old new status name count catalogue file tells holds used refused
      | inr (inr kept) ↦ new-done s k kept.catalogue _ _ status kept.follows fine' fine''
    ];
  }
