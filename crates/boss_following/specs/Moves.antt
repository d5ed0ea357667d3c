-- Source: own.
-- What became of a journal and its follower in a step.
use Rattle.std.specs.Prelude.{◌≡◌, ◌⊎◌, Bool, true, false, List, Result, Ok, Err}
use Rattle.boss_disk.specs.declared.disk.Disk as disk
use Rattle.boss_disk_pair.specs.Causes.{Counts, counts_of, OneRose}
use Rattle.boss_durable.specs.declared.durable.Durable.{Durable}
use Rattle.boss_durable.specs.declared.followed.Followed.{Followed}
use Rattle.boss_durable.specs.declared.followed.Followed.TheVariants as followed
use Rattle.boss_durable.specs.Words.{keeps, lasting, passes}
use Rattle.boss_following.specs.declared.following.Following.{Following}
use Rattle.boss_following.specs.declared.stop.Stop.{Stop}
use Rattle.boss_following.specs.declared.stop.Stop.TheVariants.{BadLine, DiskFault, NoMemory}
use Rattle.boss_following.specs.Places.{spot}
use Rattle.boss_following.specs.Steps.{Made, Moves}
use Rattle.boss_model.specs.declared.event.Event.{Event}
use Rattle.boss_model.specs.declared.state.Actuator.{Actuator}
use Rattle.boss_model.specs.State.{Persistent}
use Rattle.def_feed.specs.Followers.{Follower, Step}

-- what a line comes to, by what became of its event or of the state that it ends
abbrev pub done_by : Followed → Result Unit Stop
done_by followed.Done = Ok tt
done_by followed.NotEffective = Err BadLine
done_by followed.NotSound = Err BadLine
done_by followed.Stopped = Err DiskFault
done_by followed.DiskFault = Err DiskFault
done_by followed.NoMemory = Err NoMemory

abbrev pub is_disk_fault : Result Unit Stop → Bool
is_disk_fault (Ok done) = false
is_disk_fault (Err DiskFault) = true
is_disk_fault (Err other) = false

-- a disk fault is told exactly where a disk's count rose
abbrev pub StepCause : Counts → Counts → Result Unit Stop → Type 0
StepCause before now (Ok done) = now ≡ before
StepCause before now (Err DiskFault) = OneRose before now
StepCause before now (Err other) = now ≡ before

module _ {D : Type 0} {g : disk.Ghosts D} where
  -- the disks have what lasts
  abbrev pub IsKept : Durable D g → Type 0
  IsKept durable = (events : List Event) × keeps durable events

  -- Each image opens to what lasted, or to what the step makes of it.
  abbrev pub MayLast : List Actuator → Follower → Step → Durable D g → Durable D g → Type 0
  MayLast plant f step old new = (b : Persistent) × passes old new (lasting old) b × ((b ≡ lasting old) ⊎ ((next : Follower) × Made plant f step next × (b ≡ next.lasting)))

  -- a step from the one moment to the other
  pub record Steps (plant : List Actuator) (step : Step) (old : Durable D g) (from : Following) (new : Durable D g) (to : Following) (result : Result Unit Stop) : Type 0 where
    pub moves : Moves plant (spot old from) step (spot new to) result
    pub keeps_on : (before : List Event) → keeps old before → is_disk_fault result ≡ false → IsKept new
    pub images : (before : List Event) → keeps old before → MayLast plant (spot old from) step old new
    pub cause : StepCause (counts_of old.disks) (counts_of new.disks) result
    pub stops : new.disks.stopped ≡ is_disk_fault result
    pub same_plant : new.engine.plant ≡ old.engine.plant
    pub limit : new.log_limit ≡ old.log_limit
    pub digest : new.disks.digest ≡ old.disks.digest
