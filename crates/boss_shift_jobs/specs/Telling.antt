-- Source: own.
-- What is told of a state that the disks were to have, by what became of it.
use Rattle.std.specs.Prelude.{◌≡◌, ℕ, List}
use Rattle.boss_durable.specs.declared.followed.Followed.{Followed}
use Rattle.boss_durable.specs.declared.followed.Followed.TheVariants.{Done, NotEffective, NotSound, Stopped, DiskFault, NoMemory}
use Rattle.boss_jobs.specs.Jobs.{TellsLine}
use Rattle.boss_outside.specs.declared.sink.Sink as sink

module _ {K : Type 0} (k : sink.Ghosts K) (line : List ℕ) where
  -- the line, with status 0; of a fault and of want of memory nothing
  abbrev pub TellsTaken : Followed → K → K → ℕ → Type 0
  TellsTaken Done old new status = TellsLine k line 0 old new status
  TellsTaken Stopped old new status = (status ≡ 5) × (new ≡ old)
  TellsTaken DiskFault old new status = (status ≡ 5) × (new ≡ old)
  TellsTaken NoMemory old new status = (status ≡ 8) × (new ≡ old)
  TellsTaken NotEffective old new status = ⊥
  TellsTaken NotSound old new status = ⊥
