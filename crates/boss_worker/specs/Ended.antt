-- Source: own.
-- How the workers that serve no connection ended.
use Rattle.std.specs.Prelude.{◌≡◌, ℕ, ◌<◌, ◌==◌, Bool, true, false, ◌||◌, List, [], ◌∷◌, length}
use Rattle.std.specs.List.{AllByRecursion}
use Rattle.boss_model.specs.Limits.{last_number}
use Rattle.boss_model.specs.declared.state.Actuator.{Actuator}
use Rattle.def_history.specs.declared.entry.Entry.{Entry}
use Rattle.def_lanes.specs.Lanes.{done_in}
use Rattle.def_lanes.specs.Works.{not_cut, Work, visit, beat, drive, lane_of_work, owner}

-- whether one of the works is that of the worker with this number
abbrev pub is_worked : ℕ → ℕ → List Work → Bool
is_worked workers number [] = false
is_worked workers number (work ∷ works) = (owner workers work == number) || is_worked workers number works

-- a worker that serves no connection and was not cut off was told to end, where its waiter tells and its lane has less than 2^62 entries
abbrev pub HasEnded : Type 0 → Work → List Entry → Type 0
HasEnded pausing (visit served course) entries = Unit {0}
HasEnded pausing (beat waited course) entries = pausing → length entries < last_number → course.cut ≡ not_cut → waited.closed ≡ true
HasEnded pausing (drive driver calls waited course) entries = pausing → length entries < last_number → course.cut ≡ not_cut → waited.closed ≡ true

abbrev pub AreEnded : List Actuator → Type 0 → List Entry → List Work → Type 0
AreEnded plant pausing own works = AllByRecursion (λ work. HasEnded pausing work (done_in plant (lane_of_work work) own)) works
