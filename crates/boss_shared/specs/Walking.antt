-- Source: own.
-- What a crash may leave of a value's disk while its calls go by: between two calls what was done so far, and while one runs nothing
-- beyond the step that it is about.
use Rattle.std.specs.Prelude.{◌≡◌, ◌⊎◌, true, ℕ, List, [], ◌∷◌, length, take}
use Rattle.std.specs.List.{flat_map}
use Rattle.boss_model.specs.declared.state.Actuator.{Actuator}
use Rattle.boss_model.specs.State.{Persistent, State}
use Rattle.def_history.specs.declared.entry.Entry.{Entry}
use Rattle.def_history.specs.declared.entry.Entry.TheVariants.{Did, Broke}
use Rattle.def_history.specs.History.{run, run_tried}
use Rattle.boss_shared.specs.Calls.{is_growing_at}

-- The same entries, where of the commands that were under way as the disk failed only so many were tried. Of the others' the mark
-- has those alone that were tried.
abbrev pub shortened : ℕ → List Entry → List Entry
shortened tried [] = []
shortened tried (Did session command moment answer ∷ entries) = Did session command moment answer ∷ shortened tried entries
shortened tried (Broke session commands others ∷ entries) = Broke session (take tried commands) others ∷ shortened tried entries

-- Of the commands that were under way as a disk failed so many were tried: all of them, or those before one that may want memory, for
-- which there was none.
abbrev pub AreTried : ℕ → List Entry → Type 0
AreTried tried [] = Unit {0}
AreTried tried (Did session command moment answer ∷ entries) = AreTried tried entries
AreTried tried (Broke session commands others ∷ entries) = ((tried ≡ length commands) ⊎ (is_growing_at commands tried ≡ true)) × AreTried tried entries

-- In a plant, of a value that tells for any two moments, and any two parts that outlast a stop, whether from the one moment to the
-- other each image of its disk opened to one of these parts
module _ {V : Type 0} (plant : List Actuator) (passes : V → V → Persistent → Persistent → Type 0) where
  -- From this state on one call made these entries. While it ran each image opened to what lasted before it, or to what all commands
  -- that were tried make of that.
  abbrev pub RunsThrough : State → V → List Entry → V → Type 0
  RunsThrough s old made new = (tried : ℕ) × AreTried tried made × passes old new s.persistent (run_tried plant (shortened tried made) s).persistent

  -- Calls went by one after another, each behind what those before it had done: of each these are the entries.
  abbrev pub WalksBy : State → V → List (List Entry) → V → Type 0
  WalksBy s old [] new = new ≡ old
  WalksBy s old (made ∷ others) new = (between : V) × RunsThrough s old made between × WalksBy (run plant made s) between others new

  -- From this state on calls went by that made these entries: each entry is of one call.
  pub record Walks (s : State) (old : V) (made : List Entry) (new : V) : Type 0 where
    pub parts : List (List Entry)
    pub joined : made ≡ flat_map (λ part. part) parts
    pub by : WalksBy s old parts new
