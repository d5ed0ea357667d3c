-- The last entry of a legal history is answered as the machine answers.
use Rattle.std.proofs.Common.{List, [], ◌∷◌, ◌++◌}
use Rattle.boss_model.specs.declared.state.Actuator.{Actuator}
use Rattle.boss_model.specs.State.{State}
use Rattle.def_history.specs.declared.entry.Entry.{Entry}
use Rattle.def_history.specs.History.{after_entry, run, IsEntryAt, IsLegal}

pub last_is_legal : (plant : List Actuator) (first : List Entry) (entry : Entry) (s : State) → IsLegal plant (first ++ entry ∷ []) s →
    IsEntryAt plant (run plant first s) entry
last_is_legal plant [] entry s legal = legal.0
last_is_legal plant (e ∷ first) entry s legal = last_is_legal plant first entry (after_entry plant e s) legal.2
