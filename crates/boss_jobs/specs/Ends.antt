-- Source: own.
-- How a script ended.
use Rattle.std.specs.Prelude.{◌≡◌, ◌⊎◌, ℕ, ◌≤◌, false, length, Result, Ok, Err, OnErr}
use Rattle.boss_lines.specs.declared.reader.Next.{Next}
use Rattle.boss_lines.specs.declared.reader.Next.TheVariants.{Line, Finish, TooLong, ReadFault}
use Rattle.boss_model.specs.Catalogue.{Catalogue}
use Rattle.boss_model.specs.Limits.{most_lines}
use Rattle.boss_model.specs.Lines.{lines}
use Rattle.boss_outside.specs.Counts.{Rose}
use Rattle.boss_scripts.specs.declared.broken.Broken.{Broken}
use Rattle.boss_scripts.specs.declared.broken.Broken.TheVariants.{WriteFault, NoMemory}
use Rattle.boss_scripts.specs.Causes.{ReadCause, WriteCause}
use Rattle.boss_scripts.specs.Ends.{EndsOver, has_too_long}
use Rattle.boss_scripts.specs.Outside.{Outside}
use Rattle.boss_jobs.specs.Scripts.{BrokeScript, RanScript}

-- the status that tells how a script ended
abbrev pub status_of : Result Next Broken → ℕ
status_of (Ok Finish) = 0
status_of (Ok ReadFault) = 6
status_of (Err WriteFault) = 7
status_of (Err NoMemory) = 8
status_of (Ok TooLong) = 13
status_of (Ok Line) = 14

-- how a script ended whose journal does not fail, by what it came to behind its last line
abbrev pub Ended : Catalogue → Outside → Outside → Result Next Broken → Type 0
Ended catalogue old new (Ok next) = EndsOver (λ all is_over. RanScript catalogue all is_over old new) old new next
Ended catalogue old new (Err broken) = Unit {0}

-- A script over what was left of a source ended with this status, which tells its end: 0, 6, 13 and 14 that of its lines, 7 and 8
-- that a write failed or memory was wanting. Where it broke off, the sink took the front of its text.
pub record EndsScript (catalogue : Catalogue) (old new : Outside) (status : ℕ) : Type 0 where
  pub end : Result Next Broken
  pub told : status ≡ status_of end
  pub ended : old.source_tells → Ended catalogue old new end
  pub broke : OnErr end (old.source_tells → old.sink_tells → BrokeScript catalogue (lines old.left) old new)
  pub read_fault : ReadCause old.read_faults new.read_faults end
  pub write_fault : WriteCause old.write_faults new.write_faults end
  -- where nothing failed, no line is too long and the lines are not too many, it runs to its end, or memory is wanting
  pub complete : old.source_tells → ¬ Rose old.read_faults new.read_faults → ¬ Rose old.write_faults new.write_faults
      → has_too_long (lines old.left) ≡ false → length (lines old.left) ≤ most_lines → (status ≡ 0) ⊎ (status ≡ 8)
