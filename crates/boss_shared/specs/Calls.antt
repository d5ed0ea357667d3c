-- Source: own.
-- What the outcome of a call says, apart from what stands in the history.
use Rattle.std.specs.Prelude.{◌≡◌, ℕ, zero, suc, ◌<◌, Bool, true, false, List, [], ◌∷◌, length, Option, Some, None}
use Rattle.boss_model.specs.declared.command.Command.{Command}
use Rattle.boss_model.specs.declared.command.Command.TheVariants as command
use Rattle.boss_model.specs.Catalogue.{Catalogue}
use Rattle.boss_model.specs.Tellable.{IsTellable}
use Rattle.def_history.specs.Made.{is_growing}
use Rattle.def_history.specs.declared.outcome.Outcome.{Outcome}
use Rattle.def_history.specs.declared.outcome.Outcome.TheVariants.{Done, Stopped, DiskFault, NoMemory, Denied}

-- the disk had failed before
abbrev pub is_stopped : Outcome → Bool
is_stopped (Done answer) = false
is_stopped Stopped = true
is_stopped DiskFault = false
is_stopped NoMemory = false
is_stopped (Denied index rule) = false

-- the disk has failed, before or in this call
abbrev pub has_failed : Outcome → Bool
has_failed (Done answer) = false
has_failed Stopped = true
has_failed DiskFault = true
has_failed NoMemory = false
has_failed (Denied index rule) = false

-- memory is wanted by certain commands alone
abbrev pub MayWant : Command → Outcome → Type 0
MayWant command (Done answer) = Unit {0}
MayWant command Stopped = Unit {0}
MayWant command DiskFault = Unit {0}
MayWant command NoMemory = is_growing command ≡ true
MayWant command (Denied index rule) = Unit {0}

-- an attach or a submit
abbrev pub is_judged : Command → Bool
is_judged (command.Attach name) = true
is_judged (command.Submit writes policy seq) = true
is_judged other = false

-- no other may be denied
abbrev pub MayDeny : Command → Outcome → Type 0
MayDeny command (Done answer) = Unit {0}
MayDeny command Stopped = Unit {0}
MayDeny command DiskFault = Unit {0}
MayDeny command NoMemory = Unit {0}
MayDeny command (Denied index rule) = is_judged command ≡ true

-- the answer can be told
abbrev pub IsTold : Catalogue → Outcome → Type 0
IsTold catalogue (Done answer) = IsTellable catalogue answer
IsTold catalogue Stopped = Unit {0}
IsTold catalogue DiskFault = Unit {0}
IsTold catalogue NoMemory = Unit {0}
IsTold catalogue (Denied index rule) = Unit {0}

-- ---- several commands, each with its moment

-- the command of this number, from 0, is one that may want memory
abbrev pub is_growing_at : List (Command × ℕ) → ℕ → Bool
is_growing_at [] n = false
is_growing_at (call ∷ calls) zero = is_growing call.0
is_growing_at (call ∷ calls) (suc n) = is_growing_at calls n

abbrev pub is_stopped_rest : Option Outcome → Bool
is_stopped_rest None = false
is_stopped_rest (Some outcome) = is_stopped outcome

abbrev pub has_failed_rest : Option Outcome → Bool
has_failed_rest None = false
has_failed_rest (Some outcome) = has_failed outcome

-- why no more than so many were done
abbrev pub RestFits : List (Command × ℕ) → ℕ → Option Outcome → Type 0
RestFits calls done None = done ≡ length calls
RestFits calls done (Some (Done answer)) = ⊥
RestFits calls done (Some Stopped) = done < length calls
RestFits calls done (Some DiskFault) = done < length calls
RestFits calls done (Some NoMemory) = (done < length calls) × (is_growing_at calls done ≡ true)
RestFits calls done (Some (Denied index rule)) = done < length calls

-- a disk that fails lets none be done
abbrev pub NoneDone : ℕ → Option Outcome → Type 0
NoneDone done None = Unit {0}
NoneDone done (Some (Done answer)) = Unit {0}
NoneDone done (Some Stopped) = done ≡ 0
NoneDone done (Some DiskFault) = done ≡ 0
NoneDone done (Some NoMemory) = Unit {0}
NoneDone done (Some (Denied index rule)) = Unit {0}
