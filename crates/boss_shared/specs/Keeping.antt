-- Source: own.
-- A value that keeps a machine: what one call makes of it, and for which history it stands.
use Rattle.std.specs.Prelude.{◌≡◌, Bool, true, false, ◌||◌, ℕ, List, [], ◌++◌}
use Rattle.boss_model.specs.declared.event.Event.{Event}
use Rattle.boss_model.specs.declared.state.Actuator.{Actuator}
use Rattle.boss_model.specs.Sound.{IsSound}
use Rattle.boss_model.specs.State.{Persistent, State}
use Rattle.boss_outside.specs.Counts.{Rose}
use Rattle.def_history.specs.declared.entry.Entry.{Entry}
use Rattle.def_history.specs.History.{events, is_broken, IsLegal, run, run_tried}
use Rattle.boss_shared.specs.Walking.{AreTried, shortened, Walks}

-- What the value tells: its plant, its state, whether its disk has failed, how often, between which two parts that
-- outlast a stop each image of the disk lies, and lay from one moment to another, and which events the disk has
module _ {V : Type 0} (plant : V → List Actuator) (state : V → State) (stopped : V → Bool) (faults : V → ℕ)
    (leaves : V → Persistent → Persistent → Type 0) (passes : V → V → Persistent → Persistent → Type 0) (keeps : V → List Event → Type 0) where
  -- one call that made these entries
  pub record Keeps (old new : V) (made : List Entry) : Type 0 where
    pub legal : IsLegal (plant old) made (state old)
    pub same_plant : plant new ≡ plant old
    pub marked : stopped new ≡ (stopped old || is_broken made)
    -- a value whose disk has failed does no more
    pub none : stopped old ≡ true → made ≡ []
    pub still : stopped old ≡ true → new ≡ old
    pub state_is : stopped new ≡ false → state new ≡ run (plant old) made (state old)
    -- the count rises where the disk fails, and nowhere else
    pub rose : stopped old ≡ false → stopped new ≡ true → Rose (faults old) (faults new)
    pub stood : stopped new ≡ stopped old → faults new ≡ faults old
    -- what a crash would leave has all of the call's changes, or where the disk failed in it those of all commands that were tried,
    -- or none
    pub images : stopped old ≡ false → leaves old (state old).persistent (state old).persistent → (before : List Event) → keeps old before →
        (tried : ℕ) × AreTried tried made × leaves new (run (plant old) made (state old)).persistent (run_tried (plant old) (shortened tried made) (state old)).persistent
    pub images_stay : stopped old ≡ true → (first second : Persistent) → leaves old first second → leaves new first second
    -- and while it ran each image had all of that, or none
    pub through : stopped old ≡ false → (before : List Event) → keeps old before → Walks (plant old) passes (state old) old made new
    pub gained : stopped new ≡ false → (before : List Event) → keeps old before → keeps new (before ++ events (plant old) made (state old))

  -- the value stands for this history from the start
  pub record IsHeld (start now : V) (log : List Entry) : Type 0 where
    pub sound : IsSound (plant start) (state start)
    pub known : (before : List Event) × keeps start before
    pub legal : IsLegal (plant start) log (state start)
    pub same_plant : plant now ≡ plant start
    -- the mark is there exactly where the disk has failed
    pub marked : stopped now ≡ is_broken log
    pub state_is : stopped now ≡ false → state now ≡ run (plant start) log (state start)
    pub rose : stopped now ≡ true → Rose (faults start) (faults now)
    pub stood : stopped now ≡ false → faults now ≡ faults start
    pub images : (tried : ℕ) × AreTried tried log
        × leaves now (run (plant start) log (state start)).persistent (run_tried (plant start) (shortened tried log) (state start)).persistent
    -- and while one of its steps ran each image opened to what those before it had done, or to that with all of the step
    pub through : Walks (plant start) passes (state start) start log now
    pub gained : stopped now ≡ false → (before : List Event) → keeps start before → keeps now (before ++ events (plant start) log (state start))
