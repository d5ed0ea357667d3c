-- Source: own.
-- What is told of a feed that was told or followed, by how that ended.
use Rattle.std.specs.Prelude.{◌≡◌, ℕ, Result, Ok, Err}
use Rattle.boss_outside.specs.declared.sink.Sink as sink
use Rattle.boss_feeding.specs.declared.fault.FeedFault.{FeedFault}
use Rattle.boss_feeding.specs.declared.fault.FeedFault.TheVariants.{Refused, WriteFault}
use Rattle.boss_following.specs.declared.stop.FollowEnd.{FollowEnd}
use Rattle.boss_following.specs.declared.stop.FollowEnd.TheVariants as end
use Rattle.boss_jobs.specs.Jobs.{TellsLine}
use Rattle.boss_jobs.specs.Openings.{TellsJournal}
use Rattle.boss_model.specs.State.{Persistent}
use Rattle.boss_standby_jobs.specs.Lines.{bad_line, followed_line, gap_line, short_line}

module _ {K : Type 0} (k : sink.Ghosts K) where
  -- behind a feed: a journal that is refused is told as a check tells it
  abbrev pub TellsFed : {T : Type 0} → Result T FeedFault → K → K → ℕ → Type 0
  TellsFed (Ok done) old new status = (status ≡ 0) × (new ≡ old)
  TellsFed (Err (Refused refusal)) old new status = TellsJournal k refusal old new status
  TellsFed (Err WriteFault) old new status = (status ≡ 7) × (new ≡ old)

  -- Behind a feed that was followed, where these events led to this: one line, where it came to its end or a line was no more
  -- followed; else the status tells it alone.
  abbrev pub TellsEnd : FollowEnd → ℕ → Persistent → K → K → ℕ → Type 0
  TellsEnd end.End number d old new status = TellsLine k (followed_line number d) 0 old new status
  TellsEnd (end.Gap have found) number d old new status = TellsLine k (gap_line have found) 18 old new status
  TellsEnd (end.BadLine line) number d old new status = TellsLine k (bad_line line) 18 old new status
  TellsEnd end.Short number d old new status = TellsLine k short_line 18 old new status
  TellsEnd end.TooLong number d old new status = (status ≡ 13) × (new ≡ old)
  TellsEnd end.Limit number d old new status = (status ≡ 14) × (new ≡ old)
  TellsEnd end.ReadFault number d old new status = (status ≡ 6) × (new ≡ old)
  TellsEnd end.DiskFault number d old new status = (status ≡ 5) × (new ≡ old)
  TellsEnd end.NoMemory number d old new status = (status ≡ 8) × (new ≡ old)
  TellsEnd end.Stopped number d old new status = (status ≡ 5) × (new ≡ old)
