-- Source: own.
-- Gates that an attach and a submit have to pass, and the process that a pass holds at each: what is denied, and what a call leaves
-- held. A desk tells a list of gates, since one may stand behind another, and a pass as many of what it holds.
use Rattle.std.specs.Prelude.{◌≡◌, ℕ, zero, suc, ◌==◌, Bool, if◌then◌else◌, List, [], ◌∷◌, Option, Some, None}
use Rattle.boss_model.specs.declared.answer.Answer.{Answer}
use Rattle.boss_model.specs.declared.answer.Answer.TheVariants as answer
use Rattle.boss_model.specs.declared.command.Command.{Command}
use Rattle.boss_model.specs.declared.command.Command.TheVariants as command
use Rattle.boss_model.specs.declared.command.Setting.{Setting}
use Rattle.def_history.specs.declared.outcome.Outcome.{Outcome}
use Rattle.def_history.specs.declared.outcome.Outcome.TheVariants.{Done, Stopped, DiskFault, NoMemory, Denied}

-- Whether a process of this name may attach. And of a process's name and the writes of a submit of it: the first write that is denied,
-- from 0, and the rule, from 1, or 0 where no rule is for it; none where all are allowed
abbrev pub Gate : Type 0
Gate = (List ℕ → Bool) × (List ℕ → List Setting → Option (ℕ × ℕ))

abbrev pub admits : Gate → List ℕ → Bool
admits gate = gate.0

abbrev pub denied_writes : Gate → List ℕ → List Setting → Option (ℕ × ℕ)
denied_writes gate = gate.1

-- a session and the name of the process that it holds
abbrev pub Holding : Type 0
Holding = Option (ℕ × List ℕ)

-- ---- what is denied

-- an attach that is denied has no write, and no rule is for its name: 0 and 0
abbrev pub denied_name : Gate → List ℕ → Option (ℕ × ℕ)
denied_name gate name = if admits gate name then None else Some (0, 0)

-- a gate denies attaches, whatever is held, and submits of the session that is held, and nothing else
abbrev pub denied_at : Gate → Holding → ℕ → Command → Option (ℕ × ℕ)
denied_at gate held session (command.Attach name) = denied_name gate name
denied_at gate None session asked = None
denied_at gate (Some held) session (command.Submit writes policy seq) = if held.0 == session then denied_writes gate held.1 writes else None
denied_at gate (Some held) session other = None

abbrev pub or_else : Option (ℕ × ℕ) → Option (ℕ × ℕ) → Option (ℕ × ℕ)
or_else (Some first) second = Some first
or_else None second = second

-- the first gate that denies is told
abbrev pub denied_to : List Gate → List Holding → ℕ → Command → Option (ℕ × ℕ)
denied_to [] held session asked = None
denied_to (gate ∷ gates) [] session asked = None
denied_to (gate ∷ gates) (one ∷ others) session asked = or_else (denied_at gate one session asked) (denied_to gates others session asked)

-- what an outcome says of it
abbrev pub denial_of : Outcome → Option (ℕ × ℕ)
denial_of (Done answer) = None
denial_of Stopped = None
denial_of DiskFault = None
denial_of NoMemory = None
denial_of (Denied index rule) = Some (index, rule)

abbrev pub denial_of_rest : Option Outcome → Option (ℕ × ℕ)
denial_of_rest None = None
denial_of_rest (Some outcome) = denial_of outcome

-- ---- what is held

-- an attach that was accepted sets it, and a session that is gone clears it
abbrev pub held_by : ℕ → Command → Answer → Holding → Holding
held_by session (command.Attach name) (answer.Attached known next) held = Some (session, name)
held_by session command.Gone (answer.Gone ended) held = None
held_by session asked given held = held

abbrev pub all_held_by : ℕ → Command → Answer → List Holding → List Holding
all_held_by session asked given [] = []
all_held_by session asked given (one ∷ others) = held_by session asked given one ∷ all_held_by session asked given others

-- a command that was not done leaves it
abbrev pub held_after : ℕ → Command → Outcome → List Holding → List Holding
held_after session asked (Done given) held = all_held_by session asked given held
held_after session asked other held = held

-- no session is held at any of these gates
abbrev pub AreFree : List Gate → List Holding → Type 0
AreFree [] held = Unit {0}
AreFree (gate ∷ gates) [] = ⊥
AreFree (gate ∷ gates) (one ∷ others) = (one ≡ None) × AreFree gates others

-- ---- several commands, each with its moment

-- no gate denied one that was answered, each judged by what was held at its place; and what is held behind them
abbrev pub AllowedAll : List Gate → ℕ → List (Command × ℕ) → List Answer → List Holding → List Holding → Type 0
AllowedAll gates session [] answers held after = after ≡ held
AllowedAll gates session (call ∷ calls) [] held after = after ≡ held
AllowedAll gates session (call ∷ calls) (given ∷ answers) held after =
    (denied_to gates held session call.0 ≡ None) × AllowedAll gates session calls answers (all_held_by session call.0 given held) after

-- the first that was not done was denied exactly where a gate denies it
abbrev pub NextJudged : List Gate → List Holding → ℕ → List (Command × ℕ) → ℕ → Option Outcome → Type 0
NextJudged gates held session [] done rest = Unit {0}
NextJudged gates held session (call ∷ calls) zero rest = denial_of_rest rest ≡ denied_to gates held session call.0
NextJudged gates held session (call ∷ calls) (suc done) rest = NextJudged gates held session calls done rest
