-- No job ends with the status of words that ask for none.
use Rattle.std.proofs.Common.{◌≡◌, ◌⊎◌, inl, inr, Bool, true, false, ℕ, ◌==◌, if◌then◌else◌, List, Result, Ok, Err, refl, sym, subst, ◌∙◌}
use Rattle.boss_adopt_jobs.specs.AdoptJobs.{AdoptsJournal, AdoptsMemory}
use Rattle.boss_adopt_jobs.specs.Telling.{TellsRefusal}
use Rattle.boss_adopting.specs.declared.refusal.AdoptRefusal.{AdoptRefusal}
use Rattle.boss_adopting.specs.declared.refusal.AdoptRefusal.TheVariants as adopting
use Rattle.boss_files.specs.declared.files.Files as files
use Rattle.boss_following.specs.declared.stop.FollowEnd.{FollowEnd}
use Rattle.boss_following.specs.declared.stop.FollowEnd.TheVariants as end
use Rattle.boss_jobs.specs.Checks.{ChecksJournal, ChecksMemory}
use Rattle.boss_jobs.specs.Ends.{status_of}
use Rattle.boss_jobs.specs.Jobs.{DoesScript, HadNoCatalogue, RefusedCatalogue, SaysText, TellsLine, World}
use Rattle.boss_jobs.specs.Journals.{Pair}
use Rattle.boss_jobs.specs.KeptScripts.{DoesKeptScript}
use Rattle.boss_jobs.specs.LoadJobs.{DoesLoad}
use Rattle.boss_lines.specs.declared.reader.Next.{Next}
use Rattle.boss_lines.specs.declared.reader.Next.TheVariants.{Line, Finish, TooLong, ReadFault}
use Rattle.boss_model.specs.Catalogue.{Catalogue}
use Rattle.boss_model.specs.State.{Persistent}
use Rattle.boss_outside.specs.declared.actuators.Actuators as actuators
use Rattle.boss_outside.specs.declared.sink.Sink as sink
use Rattle.boss_outside.specs.declared.source.Source as source
use Rattle.boss_scripts.specs.declared.broken.Broken.{Broken}
use Rattle.boss_scripts.specs.declared.broken.Broken.TheVariants.{WriteFault, NoMemory}
use Rattle.boss_serve_jobs.specs.ServeJobs.{EndsBy, Faults}
use Rattle.boss_shift_jobs.specs.ShiftJobs.{ShiftsJournal}
use Rattle.boss_standby_jobs.specs.FeedJobs.{FeedsJournal, FeedsMemory}
use Rattle.boss_standby_jobs.specs.Followings.{FollowsOver, Streams}
use Rattle.boss_standby_jobs.specs.StandbyJobs.{DoesStandby, StandbyMemory}
use Rattle.boss_standby_jobs.specs.Telling.{TellsEnd}
use Rattle.def_history.specs.History.{is_broken}

abbrev pub NotUsage : ℕ → Type 0
NotUsage status = status ≡ 2 → ⊥

pub wrong : {P : Type 0} → true ≡ false → P
wrong e = absurd cc

-- another number
other : (status n : ℕ) → status ≡ n → (n == 2) ≡ false → NotUsage status
other status n is differs two = wrong (subst (λ m. (m == 2) ≡ false) (sym is ∙ two) differs)

five-eight : {X Y : Type 0} (status : ℕ) → ((status ≡ 5) × X) ⊎ ((status ≡ 8) × Y) → NotUsage status
five-eight status it = elim it [ inl fault ↦ other status 5 fault.0 refl | inr lack ↦ other status 8 lack.0 refl ]

module _ {K : Type 0} (k : sink.Ghosts K) (old new : K) (status : ℕ) where
  by-line : (line : List ℕ) (told : ℕ) → (told == 2) ≡ false → TellsLine k line told old new status → NotUsage status
  by-line line told differs tells = elim tells [ inl said ↦ other status told said.0 differs | inr (inl failed) ↦ other status 7 failed.0 refl | inr (inr lack) ↦ other status 8 lack.0 refl ]

  by-adoption : (why : AdoptRefusal) → TellsRefusal k why old new status → NotUsage status
  by-adoption (adopting.InUse name) tells = by-line _ 15 refl tells
  by-adoption (adopting.Unfit name) tells = by-line _ 15 refl tells
  by-adoption adopting.NoMemory tells = other status 8 tells.0 refl

  by-end : (e : FollowEnd) (count : ℕ) (d : Persistent) → TellsEnd k e count d old new status → NotUsage status
  by-end end.End count d tells = by-line _ 0 refl tells
  by-end (end.Gap have found) count d tells = by-line _ 18 refl tells
  by-end (end.BadLine line) count d tells = by-line _ 18 refl tells
  by-end end.Short count d tells = by-line _ 18 refl tells
  by-end end.TooLong count d tells = other status 13 tells.0 refl
  by-end end.Limit count d tells = other status 14 tells.0 refl
  by-end end.ReadFault count d tells = other status 6 tells.0 refl
  by-end end.DiskFault count d tells = other status 5 tells.0 refl
  by-end end.NoMemory count d tells = other status 8 tells.0 refl
  by-end end.Stopped count d tells = other status 5 tells.0 refl

-- ---- scripts

script-end : (end : Result Next Broken) → (status_of end == 2) ≡ false
script-end (Ok Finish) = refl
script-end (Ok ReadFault) = refl
script-end (Ok TooLong) = refl
script-end (Ok Line) = refl
script-end (Err WriteFault) = refl
script-end (Err NoMemory) = refl

kept-end : (broken : Bool) (end : Result Next Broken) → ((if broken then 5 else status_of end) == 2) ≡ false
kept-end true end = refl
kept-end false end = script-end end

module _ {F D S K A : Type 0} (f : files.Ghosts F D) (s : source.Ghosts S) (k : sink.Ghosts K) (a : actuators.Ghosts A) (count : ℕ) (old new : World F S K A) (status : ℕ) where
  no-catalogue : HadNoCatalogue f s k a old new status → NotUsage status
  no-catalogue none = five-eight status none.why

  refused : {name : List ℕ} → RefusedCatalogue f s k a name count old new status → NotUsage status
  refused it = by-line k old.sink new.sink status _ 3 refl it.tells

  pub of-script : {name : List ℕ} → DoesScript f s k a name count old new status → NotUsage status
  of-script it = elim it.did [
    | inl none ↦ no-catalogue none
    | inr (inl why) ↦ refused why
    | inr (inr ran) ↦ other status (status_of ran.script.end) ran.script.told (script-end ran.script.end)
  ]

  pub of-kept : {name journal : List ℕ} → DoesKeptScript f s k a name journal count old new status → NotUsage status
  of-kept it = elim it.did [
    | inl none ↦ no-catalogue none
    | inr (inl why) ↦ refused why
    | inr (inr ran) ↦ elim ran.runs [
      | inl none ↦ five-eight status none.0.why
      | inr (inl journal) ↦ by-line k old.sink new.sink status _ 4 refl journal.0.tells
      | inr (inr run) ↦ other status (if is_broken run.made then 5 else status_of run.end) run.told (kept-end (is_broken run.made) run.end)
    ]
  ]

  -- ---- checks

  pub of-check : {name journal : List ℕ} → ChecksJournal f s k a name journal count old new status → NotUsage status
  of-check it = elim it.did [
    | inl none ↦ no-catalogue none
    | inr (inl why) ↦ refused why
    | inr (inr kept) ↦ elim kept.checks.did [
      | inl none ↦ five-eight status none.why
      | inr (inl journal) ↦ by-line k old.sink new.sink status _ 4 refl journal.tells
      | inr (inr found) ↦ by-line k old.sink new.sink status _ 0 refl found.tells
    ]
  ]

  pub of-check_memory : {name : List ℕ} → ChecksMemory f s k a name count old new status → NotUsage status
  of-check_memory it = elim it.did [ inl none ↦ no-catalogue none | inr (inl why) ↦ refused why | inr (inr told) ↦ by-line k old.sink new.sink status _ 0 refl told.tells ]

  -- ---- adoptions

  pub of-adopt : {old_name new_name journal : List ℕ} → AdoptsJournal f s k a old_name new_name count old new status journal → NotUsage status
  of-adopt it = elim it.did [
    | inl none ↦ no-catalogue none
    | inr (inl why) ↦ refused why
    | inr (inr (inl why)) ↦ refused why.refused
    | inr (inr (inr kept)) ↦ elim kept.adopts [
      | inl none ↦ five-eight status none.0.why
      | inr (inl journal) ↦ by-line k old.sink new.sink status _ 4 refl journal.tells
      | inr (inr (inl fresh)) ↦ by-line k old.sink new.sink status _ 0 refl fresh.tells
      | inr (inr (inr opened)) ↦ elim opened.comes [
        | inl done ↦ by-line k old.sink new.sink status _ 0 refl done.tells
        | inr (inl point) ↦ by-adoption k old.sink new.sink status point.refusal point.tells
        | inr (inr (inl broke)) ↦ other status 5 broke.status_is refl
        | inr (inr (inr lack)) ↦ other status 8 lack.status_is refl
      ]
    ]
  ]

  pub of-adopt_memory : {old_name new_name : List ℕ} → AdoptsMemory f s k a old_name new_name count old new status → NotUsage status
  of-adopt_memory it = elim it.did [
    | inl none ↦ no-catalogue none
    | inr (inl why) ↦ refused why
    | inr (inr (inl why)) ↦ refused why.refused
    | inr (inr (inr told)) ↦ by-line k old.sink new.sink status _ 0 refl told.tells
  ]

  -- ---- shifts

  pub of-shift : {name journal : List ℕ} {by : ℕ} → ShiftsJournal f s k a name journal by count old new status → NotUsage status
  of-shift it = elim it.did [
    | inl none ↦ no-catalogue none
    | inr (inl why) ↦ refused why
    | inr (inr kept) ↦ elim kept.shifts [
      | inl none ↦ five-eight status none.0.why
      | inr (inl journal) ↦ by-line k old.sink new.sink status _ 4 refl journal.tells
      | inr (inr (inl fresh)) ↦ by-line k old.sink new.sink status _ 0 refl fresh.tells
      | inr (inr (inr opened)) ↦ elim opened.comes [
        | inl done ↦ by-line k old.sink new.sink status _ 0 refl done.tells
        | inr (inl far) ↦ by-line k old.sink new.sink status _ 15 refl far.tells
        | inr (inr (inl broke)) ↦ other status 5 broke.status_is refl
        | inr (inr (inr lack)) ↦ other status 8 lack.status_is refl
      ]
    ]
  ]

  -- ---- feeds

  pub of-feed : {name journal : List ℕ} {from : ℕ} → FeedsJournal f s k a name journal from count old new status → NotUsage status
  of-feed it = elim it.did [
    | inl none ↦ no-catalogue none
    | inr (inl why) ↦ refused why
    | inr (inr fed) ↦ elim fed.feeds.did [
      | inl journal ↦ elim journal.tells [ inl said ↦ other status 4 said.0 refl | inr (inl failed) ↦ other status 7 failed.0 refl | inr (inr lack) ↦ other status 8 lack.0 refl ]
      | inr (inl done) ↦ other status 0 done.status_is refl
      | inr (inr broke) ↦ elim broke.why [ inl fault ↦ other status 5 fault.0 refl | inr (inl failed) ↦ other status 7 failed.0 refl | inr (inr lack) ↦ other status 8 lack.0 refl ]
    ]
  ]

  pub of-feed_memory : {name : List ℕ} → FeedsMemory f s k a name count old new status → NotUsage status
  of-feed_memory it = elim it.did [ inl none ↦ no-catalogue none | inr (inl why) ↦ refused why | inr (inr fed) ↦ other status 0 fed.status_is refl ]

  -- ---- standbys

  follows-other : (catalogue : Catalogue) (was now : Pair) (first last : Streams S K) (over : ℕ) → FollowsOver s k catalogue was now first last over → NotUsage over
  follows-other catalogue was now first last over it = elim it [
    | inl none ↦ five-eight over none.0.why
    | inr (inl journal) ↦ by-line k first.sink last.sink over _ 4 refl journal.0.tells
    | inr (inr found) ↦ by-end k first.sink last.sink over found.followed.end found.followed.count found.followed.lasting found.followed.tells
  ]

  pub of-standby : {name journal : List ℕ} → DoesStandby f s k a name journal count old new status → NotUsage status
  of-standby it = elim it.did [ inl none ↦ no-catalogue none | inr (inl why) ↦ refused why | inr (inr kept) ↦ follows-other kept.catalogue _ _ _ _ status kept.follows ]

  in-memory : (over : ℕ) → NotUsage over → (b : Bool) → status ≡ (if b then 8 else over) → NotUsage status
  in-memory over differs true is = other status 8 is refl
  in-memory over differs false is = λ two. differs (sym is ∙ two)

  pub of-standby_memory : {name : List ℕ} → StandbyMemory f s k a name count old new status → NotUsage status
  of-standby_memory it = elim it.did [
    | inl none ↦ no-catalogue none
    | inr (inl why) ↦ refused why
    | inr (inr kept) ↦ elim kept.follows [
      | inl lack ↦ other status 8 lack.0 refl
      | inr found ↦ in-memory found.over (follows-other kept.catalogue _ _ _ _ found.over found.follows) (found.over == 5) found.status_is
    ]
  ]

  -- ---- a load

  pub of-load : {many seed : ℕ} → DoesLoad f s k a many seed old new status → NotUsage status
  of-load it = elim it.tells [ inl told ↦ by-line k old.sink new.sink status _ 0 refl told.2 | inr lack ↦ other status 8 lack.0 refl ]

  -- ---- a text

  pub of-text : {text : List ℕ} → SaysText f s k a text old new status → NotUsage status
  of-text it = by-line k old.sink new.sink status _ 0 refl it.tells

-- ---- servers

by-cause : (was now : Faults) (status : ℕ) → EndsBy was now status → NotUsage status
by-cause was now status it = elim it [
  | inl done ↦ other status 0 done.0 refl
  | inr (inl five) ↦ other status 5 five.0 refl
  | inr (inr (inl seven)) ↦ other status 7 seven.0 refl
  | inr (inr (inr (inl nine))) ↦ other status 9 nine.0 refl
  | inr (inr (inr (inr (inl eleven)))) ↦ other status 11 eleven.0 refl
  | inr (inr (inr (inr (inr (inl twelve))))) ↦ other status 12 twelve.0 refl
  | inr (inr (inr (inr (inr (inr eight))))) ↦ other status 8 eight refl
]

pub of-serve : (was now : Faults) (status : ℕ) → EndsBy was now status ⊎ (status ≡ 3) ⊎ (status ≡ 4) ⊎ (status ≡ 16) ⊎ (status ≡ 17) ⊎ (status ≡ 19) → NotUsage status
of-serve was now status it = elim it [
  | inl cause ↦ by-cause was now status cause
  | inr (inl three) ↦ other status 3 three refl
  | inr (inr (inl four)) ↦ other status 4 four refl
  | inr (inr (inr (inl sixteen))) ↦ other status 16 sixteen refl
  | inr (inr (inr (inr (inl seventeen)))) ↦ other status 17 seventeen refl
  | inr (inr (inr (inr (inr nineteen)))) ↦ other status 19 nineteen refl
]

pub of-serve_memory : (was now : Faults) (status : ℕ) → EndsBy was now status ⊎ (status ≡ 3) ⊎ (status ≡ 16) ⊎ (status ≡ 17) ⊎ (status ≡ 19) → NotUsage status
of-serve_memory was now status it = elim it [
  | inl cause ↦ by-cause was now status cause
  | inr (inl three) ↦ other status 3 three refl
  | inr (inr (inl sixteen)) ↦ other status 16 sixteen refl
  | inr (inr (inr (inl seventeen))) ↦ other status 17 seventeen refl
  | inr (inr (inr (inr nineteen))) ↦ other status 19 nineteen refl
]
