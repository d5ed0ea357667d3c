-- Source: own.
-- What a step of a follower comes to.
use Rattle.std.specs.Prelude.{◌≡◌, ℕ, ◌+◌, List, Option, Some, None, MatchBool, Result, Ok, Err}
use Rattle.boss_following.specs.declared.stop.Stop.{Stop}
use Rattle.boss_following.specs.declared.stop.Stop.TheVariants as stop
use Rattle.boss_model.specs.declared.state.Actuator.{Actuator}
use Rattle.boss_model.specs.Lines.{is_blank}
use Rattle.boss_model.specs.State.{Persistent}
use Rattle.def_feed.specs.Followers.{between, Follower, IsEvent, IsState, Step, On, Fault, Gap, Next, Whole, step_of}
use Rattle.def_feed.specs.Items.{Item, Reads}

-- it went on to this
abbrev pub Made : List Actuator → Follower → Step → Follower → Type 0
Made plant f (On next) now = now ≡ next
Made plant f Fault now = ⊥
Made plant f (Gap have found) now = ⊥
Made plant f (Next bytes) now = (d : Persistent) × IsEvent plant f.lasting bytes d × (now ≡ between d (f.count + 1))
Made plant f (Whole number bytes) now = (d : Persistent) × IsState plant bytes d × (now ≡ between d number)

-- the line is at fault
abbrev pub IsAtFault : List Actuator → Follower → Step → Type 0
IsAtFault plant f (On next) = ⊥
IsAtFault plant f Fault = Unit {0}
IsAtFault plant f (Gap have found) = ⊥
IsAtFault plant f (Next bytes) = (d : Persistent) → IsEvent plant f.lasting bytes d → ⊥
IsAtFault plant f (Whole number bytes) = (d : Persistent) → IsState plant bytes d → ⊥

abbrev pub Stops : List Actuator → Follower → Step → Stop → Type 0
Stops plant f step (stop.Gap have found) = step ≡ Gap have found
Stops plant f step stop.BadLine = IsAtFault plant f step
Stops plant f step stop.DiskFault = Unit {0}
Stops plant f step stop.NoMemory = Unit {0}

-- what lasts and what is known are as they were
abbrev pub Stays : Follower → Follower → Stop → Type 0
Stays f now stop.DiskFault = Unit {0}
Stays f now other = (now.lasting ≡ f.lasting) × (now.count ≡ f.count)

abbrev pub Moves : List Actuator → Follower → Step → Follower → Result Unit Stop → Type 0
Moves plant f step now (Ok done) = Made plant f step now
Moves plant f step now (Err stop) = Stops plant f step stop × Stays f now stop

-- the step of what a line was read as
abbrev pub step_read : Follower → Option Item → Step
step_read f None = Fault
step_read f (Some item) = step_of f item

-- the step of a line that is not too long
abbrev pub IsStepOf : Follower → List ℕ → Step → Type 0
IsStepOf f line step = MatchBool (is_blank line) (step ≡ On f) ((read : Option Item) × Reads line read × (step ≡ step_read f read))
