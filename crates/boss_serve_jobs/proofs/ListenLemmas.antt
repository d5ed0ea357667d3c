-- Where a server's host listens, by how its workers ran and what was told.
use Rattle.std.proofs.Common.{◌≡◌, ◌⊎◌, inl, inr, false, ℕ, List, Option, refl, sym, ap, subst, ◌∙◌}
use Rattle.boss_files.specs.declared.files.Files as files
use Rattle.boss_jobs.specs.Jobs.{TellsLine}
use Rattle.boss_outside.specs.declared.sink.Sink as sink
use Rattle.boss_outside_server.specs.declared.host.Host as host
use Rattle.boss_serve_jobs.specs.Preparing.{Setting, Unprepared}
use Rattle.boss_serve_jobs.specs.Serving.{has_listened, Listened, ListensBy, TellsEnd}
use Rattle.boss_serve_jobs.specs.declared.serving.Run.{Run}
use Rattle.boss_serve_jobs.specs.declared.serving.Run.TheVariants.{NotBound, NoMemory, Ended}

-- ---- a status that says nothing of where a host listens

pub same-unheard : (status told : ℕ) → status ≡ told → has_listened told ≡ false → has_listened status ≡ false
same-unheard status told is unheard = ap has_listened is ∙ unheard

pub five-eight-unheard : {X Y : Type 0} (status : ℕ) → ((status ≡ 5) × X) ⊎ ((status ≡ 8) × Y) → has_listened status ≡ false
five-eight-unheard status why = elim why [ inl fault ↦ same-unheard status 5 fault.0 refl | inr lack ↦ same-unheard status 8 lack.0 refl ]

pub line-unheard : {K : Type 0} (k : sink.Ghosts K) (line : List ℕ) (told : ℕ) (old new : K) (status : ℕ) → has_listened told ≡ false → TellsLine k line told old new status → has_listened status ≡ false
line-unheard k line told old new status unheard tells = elim tells [
  | inl said ↦ same-unheard status told said.0 unheard
  | inr (inl fault) ↦ same-unheard status 7 fault.0 refl
  | inr (inr lack) ↦ same-unheard status 8 lack.0 refl
]

-- nothing was set up
pub unprepared-unheard : {F D K A : Type 0} (f : files.Ghosts F D) (k : sink.Ghosts K) (name : List ℕ) (rules plan keys : Option (List ℕ)) (count : ℕ) (old new : Setting F K A) (status : ℕ) →
    Unprepared f k name rules plan keys count old new status → has_listened status ≡ false
unprepared-unheard f k name rules plan keys count old new status it = elim it [
  | inl lost ↦ five-eight-unheard status lost.why
  | inr (inl refused) ↦ line-unheard k _ 3 old.sink new.sink status refl refused.ends.tells
  | inr (inr (inl refused)) ↦ line-unheard k _ 16 old.sink new.sink status refl refused.ends.tells
  | inr (inr (inr (inl refused))) ↦ line-unheard k _ 19 old.sink new.sink status refl refused.ends.tells
  | inr (inr (inr (inr refused))) ↦ line-unheard k _ 17 old.sink new.sink status refl refused.ends.tells
]

-- ---- the host

module _ {H In Out : Type 0} (h : host.Ghosts H In Out) (address : List ℕ) where
  -- nothing was done to it
  pub nowhere : (old new : H) (status : ℕ) → new ≡ old → has_listened status ≡ false → Listened h address old new status
  nowhere old new status same unheard = inr (ap h.listens same, ap h.handed same, unheard)

  -- the workers ran, or could not, and then it was told
  by-run : {K : Type 0} (k : sink.Ghosts K) (line : List ℕ) (before after : K) (old new : H) (status : ℕ) (run : Run) →
      ListensBy h address old new run → TellsEnd k line run before after status → Listened h address old new status
  by-run k line before after old new status NotBound ran told = inr (ran.0, ran.1, same-unheard status 9 told.0 refl)
  by-run k line before after old new status NoMemory ran told = inl ran
  by-run k line before after old new status (Ended ended) ran told = inl ran

  pub listened : {K : Type 0} (k : sink.Ghosts K) (line : List ℕ) (before after : K) (first last old new : H) (status : ℕ) (run : Run) →
      first ≡ old → new ≡ last → ListensBy h address first last run → TellsEnd k line run before after status → Listened h address old new status
  listened k line before after first last old new status run began left ran told =
      by-run k line before after old new status run
      (subst (λ it. ListensBy h address old it run) (sym left) (subst (λ it. ListensBy h address it last run) began ran)) told
