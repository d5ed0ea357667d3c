-- What is told of a load whose line could not be written.
use Rattle.std.proofs.Common.{◌≡◌, ℕ, inl, inr, refl, subst, Err}
use Rattle.boss_load_run.specs.Load.{TellsLoad}
use Rattle.boss_jobs.specs.LoadJobs.{TellsSummary}
use Rattle.boss_outside.specs.declared.sink.Sink as sink
use Rattle.boss_scripts.specs.declared.broken.Broken.{Broken}
use Rattle.boss_scripts.specs.declared.broken.Broken.TheVariants.{WriteFault}

-- the front of the summary's line was told
pub front_told : {K : Type 0} (k : sink.Ghosts K) (T : Type 0) (count seed : ℕ) (old new : K) (broken : Broken) → broken ≡ WriteFault →
    TellsLoad k {T = T} count seed old new (Err broken) → TellsSummary k count seed old new 7
front_told k T count seed old new broken is tells =
    let told = subst (λ b. TellsLoad k {T = T} count seed old new (Err b)) is tells in
    inl (told.0, told.1, inr (inl (refl, told.2, told.3)))
