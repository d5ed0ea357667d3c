-- Source: own.
-- What a crash may leave of a journal while a job runs over it.
use Rattle.std.specs.Prelude.{ℕ, List}
use Rattle.boss_disk.specs.Legs.{Two, Legs, LeaveBoth}
use Rattle.boss_disk_pair.specs.Images.{OpensTo, OpensToOne}
use Rattle.boss_model.specs.declared.state.Actuator.{Actuator}
use Rattle.boss_model.specs.State.{Persistent, State}
use Rattle.boss_opening.specs.Opens.{Meanwhile}
use Rattle.boss_opening.specs.UnderWay.{MayComeTo}
use Rattle.boss_shared.specs.Walking.{Walks}
use Rattle.def_disk_pair.specs.Pairs.{OpensCleanly}
use Rattle.def_history.specs.declared.entry.Entry.{Entry}

-- From a state on calls made these entries, one after another, and from the one moment to the other each image is clean: while a call
-- ran it opened to the state before the call, or to what all its commands that were tried make of that.
abbrev pub Steps : List Actuator → List ℕ → State → Two → List Entry → Two → Type 0
Steps plant digest s from made to = Walks plant (λ old new a b. Legs (LeaveBoth (OpensToOne plant digest a b)) old new) s from made to

-- of disks that held these bytes
module _ (plant : List Actuator) (digest first second : List ℕ) where
  -- The journal was being opened from the one moment to the other. If it was clean, each image is one that a crash might have left as
  -- that began, or it is clean and opens to what the journal stood for, or to what a record that was under way makes of that.
  abbrev pub WhileOpened : Two → Two → Type 0
  WhileOpened from to = (d : Persistent) (count : ℕ) → OpensCleanly plant digest d count first second →
      (after : Persistent) × MayComeTo plant digest d count after first second × Meanwhile plant digest d after from.first from.second to.first to.second

  -- It was opened at this state, and then calls made these entries.
  pub record WhileRun (from : Two) (s : State) (made : List Entry) (to : Two) : Type 0 where
    pub opened : Two
    pub opening : WhileOpened from opened
    pub stands : LeaveBoth (OpensTo plant digest s.persistent) opened.first.window opened.second.window
    pub steps : Steps plant digest s opened made to

  -- It was opened, and then the disks moved while each image was of this kind.
  pub record WhileMoved (from : Two) (P : List ℕ → List ℕ → Type 0) (to : Two) : Type 0 where
    pub opened : Two
    pub opening : WhileOpened from opened
    pub moves : Legs (LeaveBoth P) opened to
