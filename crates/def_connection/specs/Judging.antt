-- Source: own.
-- Which attaches of a talk are denied, by the name that they ask for, and which submits, by the name of the process that its session has.
use Rattle.std.specs.Prelude.{◌≡◌, ℕ, true, if◌then◌else◌, List, [], ◌∷◌, Option, Some, None}
use Rattle.std.specs.List.{AllByRecursion}
use Rattle.boss_model.specs.declared.answer.Answer.{Answer}
use Rattle.boss_model.specs.declared.answer.Answer.TheVariants as answer
use Rattle.boss_model.specs.declared.command.Command.{Command}
use Rattle.boss_model.specs.declared.command.Command.TheVariants as command
use Rattle.def_history.specs.declared.entry.Entry.{Entry}
use Rattle.def_history.specs.declared.entry.Entry.TheVariants.{Did, Broke}
use Rattle.def_connection.specs.Speech.{Reply, of_answer, of_memory, of_stop, of_denial, Exchange, unread, refused, called, Gate, admits, denied_writes}

-- ---- the name of the process that the session has

-- an attach that was accepted gives it, and a session that is gone has none
abbrev pub name_by : Option (List ℕ) → Command → Answer → Option (List ℕ)
name_by name (command.Attach known) (answer.Attached same next) = Some known
name_by name command.Gone (answer.Gone ended) = None
name_by name asked given = name

abbrev pub name_after : Option (List ℕ) → Command → Reply → Option (List ℕ)
name_after name asked (of_answer given) = name_by name asked given
name_after name asked of_memory = name
name_after name asked of_stop = name
name_after name asked (of_denial index rule) = name

abbrev pub name_of : Option (List ℕ) → Exchange → Option (List ℕ)
name_of name (unread line) = name
name_of name (refused line why) = name
name_of name (called line asked moment reply) = name_after name asked reply

abbrev pub name_in : Option (List ℕ) → List Exchange → Option (List ℕ)
name_in name [] = name
name_in name (exchange ∷ talk) = name_in (name_of name exchange) talk

-- ---- what is denied

abbrev pub denied_name : Gate → List ℕ → Option (ℕ × ℕ)
denied_name gate name = if admits gate name then None else Some (0, 0)

-- a gate denies attaches, whatever process the session has, and submits of a session that has one, and nothing else
abbrev pub denied_by : Gate → Option (List ℕ) → Command → Option (ℕ × ℕ)
denied_by gate name (command.Attach asked) = denied_name gate asked
denied_by gate (Some name) (command.Submit writes policy seq) = denied_writes gate name writes
denied_by gate name asked = None

abbrev pub or_denied : Option (ℕ × ℕ) → Option (ℕ × ℕ) → Option (ℕ × ℕ)
or_denied (Some first) second = Some first
or_denied None second = second

-- the first gate that denies is told
abbrev pub denied_for : List Gate → Option (List ℕ) → Command → Option (ℕ × ℕ)
denied_for [] name asked = None
denied_for (gate ∷ gates) name asked = or_denied (denied_by gate name asked) (denied_for gates name asked)

-- the denial that a reply tells
abbrev pub denial_in : Reply → Option (ℕ × ℕ)
denial_in (of_denial index rule) = Some (index, rule)
denial_in other = None

-- the reply is a denial exactly where a gate denies the command, and tells what the gate does
abbrev pub IsJudged : List Gate → Option (List ℕ) → Exchange → Type 0
IsJudged gates name (unread line) = Unit {0}
IsJudged gates name (refused line why) = Unit {0}
IsJudged gates name (called line asked moment reply) = denial_in reply ≡ denied_for gates name asked

-- each is, by the name that the session has then
abbrev pub AreJudged : List Gate → Option (List ℕ) → List Exchange → Type 0
AreJudged gates name [] = Unit {0}
AreJudged gates name (exchange ∷ talk) = IsJudged gates name exchange × AreJudged gates (name_of name exchange) talk

-- ---- what is done

-- each gate admits the name of an attach, and allows all writes of a submit
abbrev pub IsAllowed : List Gate → Option (List ℕ) → Command → Type 0
IsAllowed gates name (command.Attach asked) = AllByRecursion (λ gate. admits gate asked ≡ true) gates
IsAllowed gates (Some name) (command.Submit writes policy seq) = AllByRecursion (λ gate. denied_writes gate name writes ≡ None) gates
IsAllowed gates name asked = Unit {0}

-- each entry's attach or submit is allowed, by the name that the session has then
abbrev pub AreAllowed : List Gate → Option (List ℕ) → List Entry → Type 0
AreAllowed gates name [] = Unit {0}
AreAllowed gates name (Did session asked moment given ∷ entries) = IsAllowed gates name asked × AreAllowed gates (name_by name asked given) entries
AreAllowed gates name (Broke session calls others ∷ entries) = AreAllowed gates name entries
