-- What is done of the words' job is done of each job that they may ask for.
use Rattle.std.proofs.Common.{◌≡◌, ◌≢◌, inl, inr, Bool, true, false, if◌then◌else◌, ℕ, List, codes, bytes_eq, Option, Some, None, refl, sym, subst, ◌∙◌}
use Rattle.std.proofs.lemmas.Bool.{cases_Bool}
use Rattle.std.proofs.lemmas.Slice.Eq.{bytes_eq-Decides}
use Rattle.std.specs.Option.{option_and_then}
use Rattle.boss_adopt_jobs.specs.AdoptJobs.{AdoptsJournal, AdoptsMemory}
use Rattle.boss_adopt_jobs.proofs.Completing.{does-adopt, does-adopt-memory}
use Rattle.boss_files.specs.declared.files.Files as files
use Rattle.boss_jobs.specs.Checks.{ChecksJournal, ChecksMemory}
use Rattle.boss_jobs.specs.Jobs.{DoesScript, SaysHelp, SaysUsage, SaysVersion, World}
use Rattle.boss_jobs.specs.KeptScripts.{DoesKeptScript}
use Rattle.boss_jobs.specs.LoadJobs.{DoesLoad}
use Rattle.boss_jobs.specs.Programs.{catalogue_word, is_served}
use Rattle.boss_jobs.proofs.KeptLemmas.{checks-kept, checks-memory, does-kept, none-asked}
use Rattle.boss_manager.specs.declared.next.Next.{Next}
use Rattle.boss_manager.specs.declared.next.Next.TheVariants as next
use Rattle.boss_manager.specs.declared.next.ServeJob.{ServeJob}
use Rattle.boss_manager.specs.ByWords.{ByJournal, DoesJob}
use Rattle.boss_manager.specs.Nexts.{IfDone, IsLeft, OnDone, server_of}
use Rattle.boss_manager.proofs.Statuses.{NotUsage, of-adopt, of-adopt_memory, of-check, of-check_memory, of-feed, of-feed_memory, of-kept, of-load, of-script, of-shift, of-standby, of-standby_memory, of-text, wrong}
use Rattle.boss_outside.specs.declared.actuators.Actuators as actuators
use Rattle.boss_outside.specs.declared.sink.Sink as sink
use Rattle.boss_outside.specs.declared.source.Source as source
use Rattle.boss_shift_jobs.specs.ShiftJobs.{ShiftsJournal}
use Rattle.boss_shift_jobs.proofs.Completing.{does-shift}
use Rattle.boss_standby_jobs.specs.FeedJobs.{FeedsJournal, FeedsMemory}
use Rattle.boss_standby_jobs.specs.StandbyJobs.{DoesStandby, StandbyMemory}
use Rattle.boss_standby_jobs.proofs.Completed.{does-standby, feeds-kept, feeds-memory, standby-memory}
use Rattle.boss_words.specs.declared.job.Job.{Job}
use Rattle.boss_words.specs.declared.job.Job.TheVariants.{Script, Serve, Check, Adopt, Shift, Feed, Standby, Load, Help, Version}

-- ---- options and journals

none-some : {P X : Type 0} {x : X} → None ≡ Some x → P
none-some e = absurd cc

some-same : {X : Type 0} {x y : X} → Some x ≡ Some y → x ≡ y
some-same e = cc

-- a journal is kept or in memory
either-way : {Kept Memory P : Type 0} (journal : List ℕ) → ByJournal journal Kept Memory → (Kept → P) → (Memory → P) → P
either-way journal done kept memory = elim (cases_Bool (bytes_eq journal (codes "-"))) [
  | inl same ↦ memory (done.1 ((bytes_eq-Decides journal (codes "-")).0 same))
  | inr differs ↦ kept (done.0 (λ is. wrong (sym ((bytes_eq-Decides journal (codes "-")).1 is) ∙ differs)))
]

in-memory : {X : Type 0} (journal : List ℕ) (b : Bool) (x y : X) → bytes_eq journal (codes "-") ≡ b → (if b then Some x else None) ≡ Some y → (journal ≡ codes "-") × (x ≡ y)
in-memory journal true x y same is = ((bytes_eq-Decides journal (codes "-")).0 same, some-same is)
in-memory journal false x y same is = none-some is

-- what holds of a status that there is, holds so of another relation that follows from it
done-so : {P Q : ℕ → Type 0} (left : Next) → IfDone left P → ((status : ℕ) → P status → Q status) → IfDone left Q
done-so (next.Done status) done so = so status.0 done
done-so (next.Serve job) done so = absurd done

done-on : {P Q : ℕ → Type 0} (left : Next) → IfDone left P → ((status : ℕ) → P status → Q status) → OnDone left Q
done-on (next.Done status) done so = so status.0 done
done-on (next.Serve job) done so = tt

left-on : (Q : ℕ → Type 0) (job : ServeJob) (left : Next) → IsLeft job left → Q 8 → OnDone left Q
left-on Q job (next.Done status) is eight = subst Q (sym is) eight
left-on Q job (next.Serve other) is eight = tt

module _ {F D S K A : Type 0} (f : files.Ghosts F D) (s : source.Ghosts S) (k : sink.Ghosts K) (a : actuators.Ghosts A)
    (count : ℕ) (old new : World F S K A) (left : Next) (job : Option Job) where
  abbrev Done : Option Job → Type 0
  Done job = DoesJob f s k a count job old new left

  -- ---- each job

  module _ (did : Done job) where
    pub asked-script : (name : List ℕ) → option_and_then catalogue_word job ≡ Some name → IfDone left (DoesScript f s k a name count old new)
    asked-script name is = by-job job did is
      where
        by-job : (job : Option Job) → Done job → option_and_then catalogue_word job ≡ Some name → IfDone left (DoesScript f s k a name count old new)
        by-job (Some (Script catalogue journal)) done is =
            let both = in-memory journal (bytes_eq journal (codes "-")) catalogue name refl is in
            done-so left done (λ status each. subst (λ n. DoesScript f s k a n count old new status) both.1 (each.1 both.0))
        by-job (Some (Serve catalogue journal address workers connections rules plan keys)) done is = none-some is
        by-job (Some (Check catalogue journal)) done is = none-some is
        by-job (Some (Adopt first second journal)) done is = none-some is
        by-job (Some (Shift catalogue journal by)) done is = none-some is
        by-job (Some (Feed catalogue journal from)) done is = none-some is
        by-job (Some (Standby catalogue journal)) done is = none-some is
        by-job (Some (Load many seed)) done is = none-some is
        by-job (Some Help) done is = none-some is
        by-job (Some Version) done is = none-some is
        by-job None done is = none-some is

    pub asked-kept : (name journal : List ℕ) → job ≡ Some (Script name journal) → journal ≢ codes "-" → IfDone left (DoesKeptScript f s k a name journal count old new)
    asked-kept name journal is kept = done-so left (subst Done is did) (λ status each. each.0 kept)

    pub asked-check : (name journal : List ℕ) → job ≡ Some (Check name journal) → journal ≢ codes "-" → IfDone left (ChecksJournal f s k a name journal count old new)
    asked-check name journal is kept = done-so left (subst Done is did) (λ status each. each.0 kept)

    pub asked-check_memory : (name : List ℕ) → job ≡ Some (Check name (codes "-")) → IfDone left (ChecksMemory f s k a name count old new)
    asked-check_memory name is = done-so left (subst Done is did) (λ status each. each.1 refl)

    pub asked-adopt : (old_name new_name journal : List ℕ) → job ≡ Some (Adopt old_name new_name journal) → journal ≢ codes "-" →
        IfDone left (λ status. AdoptsJournal f s k a old_name new_name count old new status journal)
    asked-adopt old_name new_name journal is kept = done-so left (subst Done is did) (λ status each. each.0 kept)

    pub asked-adopt_memory : (old_name new_name : List ℕ) → job ≡ Some (Adopt old_name new_name (codes "-")) → IfDone left (AdoptsMemory f s k a old_name new_name count old new)
    asked-adopt_memory old_name new_name is = done-so left (subst Done is did) (λ status each. each.1 refl)

    pub asked-shift : (name journal : List ℕ) (by : ℕ) → job ≡ Some (Shift name journal by) → journal ≢ codes "-" → IfDone left (ShiftsJournal f s k a name journal by count old new)
    asked-shift name journal by is kept = done-so left (subst Done is did) (λ status each. each.0 kept)

    pub asked-shift_memory : (name : List ℕ) (by : ℕ) → job ≡ Some (Shift name (codes "-") by) → IfDone left (ChecksMemory f s k a name count old new)
    asked-shift_memory name by is = done-so left (subst Done is did) (λ status each. each.1 refl)

    pub asked-feed : (name journal : List ℕ) (from : ℕ) → job ≡ Some (Feed name journal from) → journal ≢ codes "-" → IfDone left (FeedsJournal f s k a name journal from count old new)
    asked-feed name journal from is kept = done-so left (subst Done is did) (λ status each. each.0 kept)

    pub asked-feed_memory : (name : List ℕ) (from : ℕ) → job ≡ Some (Feed name (codes "-") from) → IfDone left (FeedsMemory f s k a name count old new)
    asked-feed_memory name from is = done-so left (subst Done is did) (λ status each. each.1 refl)

    pub asked-standby : (name journal : List ℕ) → job ≡ Some (Standby name journal) → journal ≢ codes "-" → IfDone left (DoesStandby f s k a name journal count old new)
    asked-standby name journal is kept = done-so left (subst Done is did) (λ status each. each.0 kept)

    pub asked-standby_memory : (name : List ℕ) → job ≡ Some (Standby name (codes "-")) → IfDone left (StandbyMemory f s k a name count old new)
    asked-standby_memory name is = done-so left (subst Done is did) (λ status each. each.1 refl)

    pub asked-load : (many seed : ℕ) → job ≡ Some (Load many seed) → IfDone left (DoesLoad f s k a many seed old new)
    asked-load many seed is = subst Done is did

    pub asked-help : job ≡ Some Help → IfDone left (SaysHelp f s k a old new)
    asked-help is = subst Done is did

    pub asked-version : job ≡ Some Version → IfDone left (SaysVersion f s k a old new)
    asked-version is = subst Done is did

    pub asked-serve : (server : ServeJob) → server_of job ≡ Some server → IsLeft server left × (new ≡ old)
    asked-serve server is = by-job job did is
      where
        by-job : (job : Option Job) → Done job → server_of job ≡ Some server → IsLeft server left × (new ≡ old)
        by-job (Some (Serve catalogue journal address workers connections rules plan keys)) done is =
            subst (λ one. IsLeft one left × (new ≡ old)) (some-same is) done
        by-job (Some (Script catalogue journal)) done is = none-some is
        by-job (Some (Check catalogue journal)) done is = none-some is
        by-job (Some (Adopt first second journal)) done is = none-some is
        by-job (Some (Shift catalogue journal by)) done is = none-some is
        by-job (Some (Feed catalogue journal from)) done is = none-some is
        by-job (Some (Standby catalogue journal)) done is = none-some is
        by-job (Some (Load many seed)) done is = none-some is
        by-job (Some Help) done is = none-some is
        by-job (Some Version) done is = none-some is
        by-job None done is = none-some is

    -- ---- all jobs

    pub asked-usage : is_served job ≡ false → IfDone left (SaysUsage f s k a old new)
    asked-usage = by-job job did
      where
        by-job : (job : Option Job) → Done job → is_served job ≡ false → IfDone left (SaysUsage f s k a old new)
        by-job (Some (Script catalogue journal)) done is = wrong is
        by-job (Some (Serve catalogue journal address workers connections rules plan keys)) done is = wrong is
        by-job (Some (Check catalogue journal)) done is = wrong is
        by-job (Some (Adopt first second journal)) done is = wrong is
        by-job (Some (Shift catalogue journal by)) done is = wrong is
        by-job (Some (Feed catalogue journal from)) done is = wrong is
        by-job (Some (Standby catalogue journal)) done is = wrong is
        by-job (Some (Load many seed)) done is = wrong is
        by-job (Some Help) done is = wrong is
        by-job (Some Version) done is = wrong is
        by-job None done is = done

    pub asked-usage_only : OnDone left (λ status. status ≡ 2 → is_served job ≡ false)
    asked-usage_only = by-job job did
      where
        served : {status : ℕ} (job : Option Job) → NotUsage status → status ≡ 2 → is_served job ≡ false
        served job differs two = absurd (differs two)

        by-job : (job : Option Job) → Done job → OnDone left (λ status. status ≡ 2 → is_served job ≡ false)
        by-job (Some (Script catalogue journal)) done = done-on left done (λ status each. served (Some (Script catalogue journal))
            (either-way journal each (of-kept f s k a count old new status) (of-script f s k a count old new status)))
        by-job (Some (Serve catalogue journal address workers connections rules plan keys)) done =
            left-on (λ status. status ≡ 2 → is_served (Some (Serve catalogue journal address workers connections rules plan keys)) ≡ false) _ left done.0 (λ two. absurd cc)
        by-job (Some (Check catalogue journal)) done = done-on left done (λ status each. served (Some (Check catalogue journal))
            (either-way journal each (of-check f s k a count old new status) (of-check_memory f s k a count old new status)))
        by-job (Some (Adopt first second journal)) done = done-on left done (λ status each. served (Some (Adopt first second journal))
            (either-way journal each (of-adopt f s k a count old new status) (of-adopt_memory f s k a count old new status)))
        by-job (Some (Shift catalogue journal by)) done = done-on left done (λ status each. served (Some (Shift catalogue journal by))
            (either-way journal each (of-shift f s k a count old new status) (of-check_memory f s k a count old new status)))
        by-job (Some (Feed catalogue journal from)) done = done-on left done (λ status each. served (Some (Feed catalogue journal from))
            (either-way journal each (of-feed f s k a count old new status) (of-feed_memory f s k a count old new status)))
        by-job (Some (Standby catalogue journal)) done = done-on left done (λ status each. served (Some (Standby catalogue journal))
            (either-way journal each (of-standby f s k a count old new status) (of-standby_memory f s k a count old new status)))
        by-job (Some (Load many seed)) done = done-on left done (λ status each. served (Some (Load many seed)) (of-load f s k a count old new status each))
        by-job (Some Help) done = done-on left done (λ status each. served (Some Help) (of-text f s k a count old new status each))
        by-job (Some Version) done = done-on left done (λ status each. served (Some Version) (of-text f s k a count old new status each))
        by-job None done = done-on left done (λ status each two. refl)

-- ---- no memory for the words

module _ {F D S K A : Type 0} (f : files.Ghosts F D) (s : source.Ghosts S) (k : sink.Ghosts K) (a : actuators.Ghosts A)
    (count : ℕ) (all : World F S K A) (left : Next) (done : (Holds : ℕ → Type 0) → Holds 8 → IfDone left Holds) (none : (server : ServeJob) → IsLeft server left) where
  pub nothing-done : (job : Option Job) → DoesJob f s k a count job all all left
  nothing-done (Some (Script name journal)) = done _ (
    λ _. does-kept f s k a all all 8 name count journal (inl (record { why = inr (refl, refl); source = refl; sink = refl; devices = refl }))
        (λ tells. none-asked _ (f.asked all.files)) (λ tells file first second. refl),
    λ _. record {
      did = inl (record { why = inr (refl, refl); source = refl; sink = refl; devices = refl });
      asks = λ tells. inr (refl, refl);
      complete = λ catalogue file tells holds used left fine fine' fine'' short few. inr refl;
    },
  )
  nothing-done (Some (Check name journal)) = done _ (
    λ _. checks-kept f s k a all all 8 name count journal (inl (record { why = inr (refl, refl); source = refl; sink = refl; devices = refl }))
        (λ tells file. refl) refl refl (λ tells. none-asked _ (f.asked all.files)),
    λ _. checks-memory f s k a all all 8 name count (inl (record { why = inr (refl, refl); source = refl; sink = refl; devices = refl }))
        (λ tells file. refl) refl refl (λ tells. none-asked _ (f.asked all.files)),
  )
  nothing-done (Some (Adopt old_name new_name journal)) = done _ (
    λ _. does-adopt f s k a old_name new_name count all all 8 journal (inl (record { why = inr (refl, refl); source = refl; sink = refl; devices = refl }))
        refl refl (λ tells. none-asked _ (f.asked all.files)) (λ tells file first second. refl),
    λ _. does-adopt-memory f s k a old_name new_name count all all 8 (inl (record { why = inr (refl, refl); source = refl; sink = refl; devices = refl }))
        (λ tells file. refl) refl refl (λ tells. none-asked _ (f.asked all.files)),
  )
  nothing-done (Some (Shift name journal by)) = done _ (
    λ _. does-shift f s k a name journal by count all all 8 (inl (record { why = inr (refl, refl); source = refl; sink = refl; devices = refl }))
        refl refl (λ tells. none-asked _ (f.asked all.files)) (λ tells file first second. refl),
    λ _. checks-memory f s k a all all 8 name count (inl (record { why = inr (refl, refl); source = refl; sink = refl; devices = refl }))
        (λ tells file. refl) refl refl (λ tells. none-asked _ (f.asked all.files)),
  )
  nothing-done (Some (Feed name journal from)) = done _ (
    λ _. feeds-kept f s k a all all 8 name count journal from (inl (record { why = inr (refl, refl); source = refl; sink = refl; devices = refl }))
        (λ tells file. refl) refl refl (λ tells. none-asked _ (f.asked all.files)),
    λ _. feeds-memory f s k a all all 8 name count (inl (record { why = inr (refl, refl); source = refl; sink = refl; devices = refl }))
        (λ tells file. refl) refl refl (λ tells. none-asked _ (f.asked all.files)),
  )
  nothing-done (Some (Standby name journal)) = done _ (
    λ _. does-standby f s k a all all 8 name count journal (inl (record { why = inr (refl, refl); source = refl; sink = refl; devices = refl }))
        refl (λ tells. none-asked _ (f.asked all.files)) (λ tells file first second. refl),
    λ _. standby-memory f s k a all all 8 name count (inl (record { why = inr (refl, refl); source = refl; sink = refl; devices = refl }))
        (λ tells file. refl) refl (λ tells. none-asked _ (f.asked all.files)),
  )
  nothing-done (Some (Serve catalogue journal address workers connections rules plan keys)) = (none _, refl)
  nothing-done (Some (Load many seed)) = done _ (record { tells = inr (refl, refl); files = refl; source = refl; devices = refl })
  nothing-done (Some Help) = done _ (record { tells = inr (inr (refl, refl)); files = refl; source = refl; devices = refl })
  nothing-done (Some Version) = done _ (record { tells = inr (inr (refl, refl)); files = refl; source = refl; devices = refl })
  nothing-done None = done _ (record { tells = inr (inr (refl, refl)); files = refl; source = refl; devices = refl })
