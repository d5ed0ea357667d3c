-- Source: own.
use Rattle.std.specs.Prelude.{◌≡◌, ℕ, Bool, true, false, not, List, [], ◌∷◌, map}
use Rattle.std.specs.List.{AllByRecursion, AllZip}
use Rattle.boss_outside.specs.Counts.{Rose}
use Rattle.boss_outside.specs.Plan.{Plan, fails_next, after_call}
use Rattle.boss_outside_server.specs.declared.running.Planned.{Planned}
use Rattle.boss_outside_server.specs.declared.task.Ran.{Ran}
use Rattle.boss_outside_server.specs.declared.task.Ran.TheVariants.{Ended, NotStarted}

module _ {T : Type 0} where
  -- whether the task was started, and so ended
  abbrev pub is_ended : Ran T → Bool
  is_ended (Ended _) = true
  is_ended (NotStarted _) = false

  -- what became of one task: it ran, or was abandoned
  abbrev pub RanAs : (T → T → Type 0) → (T → T → Type 0) → T → Ran T → Type 0
  RanAs ran abandoned task (Ended now) = ran task now
  RanAs ran abandoned task (NotStarted now) = abandoned task now

  -- what became of each task, in their order
  abbrev pub EachRan : (T → T → Type 0) → (T → T → Type 0) → List T → List (Ran T) → Type 0
  EachRan ran abandoned = AllZip (RanAs ran abandoned)

  -- a task that is to be started ran, and any other was abandoned
  pub record IsCarriedOut (ran abandoned : T → T → Type 0) (planned : Planned T) (now : Ran T) : Type 0 where
    pub became : RanAs ran abandoned planned.task now
    pub as_planned : is_ended now ≡ planned.starts

  -- the same of each, in their order
  abbrev pub AreCarriedOut : (T → T → Type 0) → (T → T → Type 0) → List (Planned T) → List (Ran T) → Type 0
  AreCarriedOut ran abandoned = AllZip (IsCarriedOut ran abandoned)

  -- each task is as it has to be before it runs or is abandoned
  abbrev pub AreReady : (T → Type 0) → List (Planned T) → Type 0
  AreReady ready = AllByRecursion (λ planned. ready planned.task)

  -- the tasks of a plan, and whether each is to be started
  abbrev pub tasks_of : List (Planned T) → List T
  tasks_of = map (λ planned. planned.task)

  abbrev pub starts_of : List (Planned T) → List Bool
  starts_of = map (λ planned. planned.starts)

-- the calls of `starts` that give these answers, one after another, lead from the one spawner to the other
abbrev pub Starts : {S : Type 0} → (S → Bool → S → Type 0) → S → List Bool → S → Type 0
Starts step old [] new = new ≡ old
Starts {S} step old (answer ∷ answers) new = (between : S) × step old answer between × Starts step between answers new

-- a task is not started exactly where the count rose in the call
abbrev pub StartCause : ℕ → ℕ → Bool → Type 0
StartCause before now true = now ≡ before
StartCause before now false = Rose before now

-- the count rose where one task was not started, and else it stayed
abbrev pub SpawnCause : ℕ → ℕ → List Bool → Type 0
SpawnCause before now [] = now ≡ before
SpawnCause before now (true ∷ started) = SpawnCause before now started
SpawnCause before now (false ∷ _) = Rose before now

-- a spawner in memory starts the next task exactly where its number is none of those that are not started
abbrev pub MakesNext : Plan → Bool → Plan → Type 0
MakesNext old started new = (started ≡ not (fails_next old)) × (new ≡ after_call old (not started))
