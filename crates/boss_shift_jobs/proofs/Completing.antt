-- The job, by how it ended.
use Rattle.std.proofs.Common.{◌≡◌, ◌≢◌, ◌⊎◌, inl, inr, ℕ, List, [], ◌∷◌, subst}
use Rattle.boss_model.specs.Catalogue.{Catalogue}
use Rattle.boss_model.specs.State.{Persistent}
use Rattle.boss_outside.specs.Counts.{Rose}
use Rattle.boss_outside.specs.declared.actuators.Actuators as actuators_of
use Rattle.boss_files.specs.declared.files.Files as files
use Rattle.boss_outside.specs.declared.sink.Sink as sink
use Rattle.boss_outside.specs.declared.source.Source as source
use Rattle.boss_pair_find.specs.declared.refusal.DurableRefusal.{DurableRefusal}
use Rattle.boss_files.specs.Names.{second_name}
use Rattle.boss_jobs.specs.Jobs.{HadNoCatalogue, RefusedCatalogue, World}
use Rattle.boss_jobs.specs.Journals.{AsksFront, in_files, IsRefused, Pair}
use Rattle.boss_jobs.proofs.KeptLemmas.{no-catalogue-fine, none-fine, not-refused, one-catalogue, told-fine}
use Rattle.law_shift.specs.Shifted.{MayShift}
use Rattle.boss_shift_jobs.specs.ShiftJobs.{CanShift, ShiftedKept, ShiftsJournal}
use Rattle.boss_shift_jobs.specs.Shifts.{ComesTo, ShiftsOver}

-- ---- statuses

module _ {K : Type 0} (k : sink.Ghosts K) (catalogue : Catalogue) (by : ℕ) (before after : K) (status : ℕ) where
  comes-fine : (d : Persistent) (number : ℕ) (was now : Pair) → ComesTo k catalogue by d number was now before after status → MayShift by d →
      ¬ Rose was.faults now.faults → ¬ Rose (k.faults before) (k.faults after) → (status ≡ 0) ⊎ (status ≡ 8)
  comes-fine d number was now it may fine fine' = elim it [
    | inl done ↦ told-fine k _ before after status fine' done.tells
    | inr (inl far) ↦ absurd (far.refuses may)
    | inr (inr (inl broke)) ↦ absurd (fine broke.faults)
    | inr (inr (inr lacked)) ↦ inr lacked.status_is
  ]

  shifts-fine : (was now : Pair) → ShiftsOver k catalogue by was now before after status → was.tells → ((refusal : DurableRefusal) → IsRefused catalogue was refusal → ⊥) → CanShift catalogue by was →
      ¬ Rose was.faults now.faults → ¬ Rose (k.faults before) (k.faults after) → (status ≡ 0) ⊎ (status ≡ 8)
  shifts-fine was now it told opens can fine fine' = elim it [
    | inl none ↦ none-fine was now before after status none.0 fine
    | inr (inl refused) ↦ absurd (opens refused.refusal (refused.of_bytes, refused.refuses told))
    | inr (inr (inl fresh)) ↦ told-fine k _ before after status fine' fresh.tells
    | inr (inr (inr found)) ↦ comes-fine found.state.persistent found.number was now found.comes (can found.state found.number (found.opened told)) fine fine'
  ]

-- ---- the job

module _ {F D S K A : Type 0} (f : files.Ghosts F D) (s : source.Ghosts S) (k : sink.Ghosts K) (a : actuators_of.Ghosts A)
    (name journal : List ℕ) (by count : ℕ) (old new : World F S K A) (status : ℕ) where
  pub does-shift : HadNoCatalogue f s k a old new status ⊎ RefusedCatalogue f s k a name count old new status ⊎ ShiftedKept f s k a name journal by count old new status →
      new.source ≡ old.source → new.devices ≡ old.devices →
      (f.tells → AsksFront (name ∷ journal ∷ second_name journal ∷ []) (f.asked old.files) (f.asked new.files)) →
      (f.tells → (file : List ℕ) → file ≢ journal → file ≢ second_name journal → f.holds new.files file ≡ f.holds old.files file) →
      ShiftsJournal f s k a name journal by count old new status
  does-shift did source devices asks others = record {
    did = did;
    source = source;
    devices = devices;
    asks = asks;
    others = others;
    complete = λ catalogue file tells holds used opens can fine fine'. elim did [
      | inl none ↦ no-catalogue-fine f s k a old new status none fine
      | inr (inl refused) ↦ not-refused f s k a old new status name count catalogue file tells holds used refused
      | inr (inr kept) ↦
          let same : kept.catalogue ≡ catalogue = one-catalogue f s k a old new status name count catalogue kept.catalogue file holds used (kept.spells tells) in
          let pair = in_files f journal old.files in
          let over : ShiftsOver k catalogue by pair (in_files f journal new.files) old.sink new.sink status =
          subst (λ c. ShiftsOver k c by pair (in_files f journal new.files) old.sink new.sink status) same kept.shifts in
          shifts-fine k catalogue by old.sink new.sink status pair (in_files f journal new.files) over tells opens can fine fine'
    ];
  }
