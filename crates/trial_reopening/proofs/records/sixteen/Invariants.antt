use Rattle.std.proofs.Common.{◌≡◌, ◌<◌, List, length}
use Rattle.std.specs.List.{AllByRecursion}
use Rattle.def_history.specs.History.{MayCall}
use Rattle.boss_model.specs.declared.state.Actuator.{Actuator}
use Rattle.trial_reopening.proofs.records.sixteen.Given as goal

-- so many calls, each of which may be made
abbrev pub invariant-loop-place : goal.invariant-loop-place
invariant-loop-place g l = record {
  count : length l.calls ≡ l.place;
  may : (plant : List Actuator) → 0 < length plant → AllByRecursion (MayCall plant) l.calls;
}
