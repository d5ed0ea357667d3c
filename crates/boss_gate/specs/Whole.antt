-- Source: own.
-- Which commands a gate hands on as they are: those that leave what is held, and of which it denies none.
use Rattle.std.specs.Prelude.{ℕ, Bool, true, false, not, ◌&&◌, List, is_none}
use Rattle.std.specs.List.{list_all}
use Rattle.boss_model.specs.declared.command.Command.{Command}
use Rattle.boss_model.specs.declared.command.Command.TheVariants as command
use Rattle.boss_shared.specs.Gates.{denied_at, Gate, Holding}

-- by its answer another process may be held, or none
abbrev pub is_naming : Command → Bool
is_naming (command.Attach name) = true
is_naming command.Gone = true
is_naming other = false

abbrev pub is_through : Gate → Holding → ℕ → Command × ℕ → Bool
is_through gate held session call = not (is_naming call.0) && is_none (denied_at gate held session call.0)

-- all of them may go to the inner desk as one batch
abbrev pub goes_whole : Gate → Holding → ℕ → List (Command × ℕ) → Bool
goes_whole gate held session calls = list_all (is_through gate held session) calls
