-- Source: own.
-- What a pass holds at the gates of a desk, and the name that its session then has.
use Rattle.std.specs.Prelude.{◌≡◌, ℕ, ◌==◌, false, List, [], ◌∷◌, Option, Some, None}
use Rattle.boss_model.specs.declared.command.Command.{Command}
use Rattle.boss_shared.specs.Gates.{Holding, all_held_by, denied_to}
use Rattle.def_connection.specs.Judging.{denial_in}
use Rattle.def_connection.specs.Speech.{Gate, Reply, of_answer, of_memory, of_stop, of_denial}

-- a command that was not done leaves what is held
abbrev pub held_behind : ℕ → Command → Reply → List Holding → List Holding
held_behind session asked (of_answer given) held = all_held_by session asked given held
held_behind session asked of_memory held = held
held_behind session asked of_stop held = held
held_behind session asked (of_denial index rule) held = held

-- each reply is a denial exactly where a gate denies its command, by what is held at its place; and what is held behind them
abbrev pub JudgedBy : List Gate → ℕ → List (Command × ℕ) → List Reply → List Holding → List Holding → Type 0
JudgedBy gates session calls [] held held' = held' ≡ held
JudgedBy gates session [] (reply ∷ replies) held held' = held' ≡ held
JudgedBy gates session (call ∷ calls) (reply ∷ replies) held held' =
    (denial_in reply ≡ denied_to gates held session call.0) × JudgedBy gates session calls replies (held_behind session call.0 reply held) held'

-- a gate holds the session's process under this name; or none, or another session's, where the session has none
abbrev pub HoldsAt : ℕ → Option (List ℕ) → Holding → Type 0
HoldsAt session (Some name) one = one ≡ Some (session, name)
HoldsAt session None None = Unit {0}
HoldsAt session None (Some held) = (held.0 == session) ≡ false

-- each gate does
abbrev pub Holds : List Gate → ℕ → Option (List ℕ) → List Holding → Type 0
Holds [] session name held = Unit {0}
Holds (gate ∷ gates) session name [] = ⊥
Holds (gate ∷ gates) session name (one ∷ others) = HoldsAt session name one × Holds gates session name others

-- a session that had no process has none then
abbrev pub LeavesOthers : List Gate → ℕ → List Holding → List Holding → Type 0
LeavesOthers gates session held held' = (other : ℕ) → (session == other) ≡ false → Holds gates other None held → Holds gates other None held'

-- the session has some name, and this holds of it
abbrev pub Named : List Gate → ℕ → List Holding → (Option (List ℕ) → Type 0) → Type 0
Named gates session held P = (name : Option (List ℕ)) × Holds gates session name held × P name

-- whatever name the session has, it has some name then, and this holds of the two
abbrev pub ByName : List Gate → ℕ → List Holding → List Holding → (Option (List ℕ) → Option (List ℕ) → Type 0) → Type 0
ByName gates session held held' P = (name : Option (List ℕ)) → Holds gates session name held → Named gates session held' (P name)
