-- What the status of a script tells.
use Rattle.std.proofs.Common.{◌≡◌, ◌⊎◌, inl, inr, ◌≤◌, true, false, length, refl, sym, ◌∙◌, arith, Result, Ok, Err}
use Rattle.boss_lines.specs.declared.reader.Next.{Next}
use Rattle.boss_lines.specs.declared.reader.Next.TheVariants.{Line, Finish, TooLong, ReadFault}
use Rattle.boss_model.specs.Catalogue.{Catalogue}
use Rattle.boss_model.specs.Limits.{most_lines}
use Rattle.boss_model.specs.Lines.{lines}
use Rattle.boss_outside.specs.Counts.{Rose}
use Rattle.boss_scripts.specs.declared.broken.Broken.{Broken}
use Rattle.boss_scripts.specs.declared.broken.Broken.TheVariants.{WriteFault, NoMemory}
use Rattle.boss_scripts.specs.Causes.{ReadCause, WriteCause}
use Rattle.boss_scripts.specs.Ends.{has_too_long}
use Rattle.boss_scripts.specs.Outside.{Outside}
use Rattle.boss_jobs.specs.Ends.{Ended, status_of}

not-both : {P : Type 0} → true ≡ false → P
not-both e = absurd cc

-- where nothing failed, no line is too long and the lines are not too many
pub completes : (catalogue : Catalogue) (old new : Outside) (end : Result Next Broken) → Ended catalogue old new end → ReadCause old.read_faults new.read_faults end → WriteCause old.write_faults new.write_faults end →
    ¬ Rose old.read_faults new.read_faults → ¬ Rose old.write_faults new.write_faults → has_too_long (lines old.left) ≡ false → length (lines old.left) ≤ most_lines →
    (status_of end ≡ 0) ⊎ (status_of end ≡ 8)
completes catalogue old new (Ok Finish) ends read write fine fine' short few = inl refl
completes catalogue old new (Ok ReadFault) ends read write fine fine' short few = absurd (fine read)
completes catalogue old new (Ok TooLong) ends read write fine fine' short few = not-both (sym ends.3 ∙ short)
completes catalogue old new (Ok Line) ends read write fine fine' short few = absurd (omega (arith, ends.2, few))
completes catalogue old new (Err WriteFault) ends read write fine fine' short few = absurd (fine' write)
completes catalogue old new (Err NoMemory) ends read write fine fine' short few = inr refl
