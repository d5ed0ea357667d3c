-- Source: own.
-- A settled point, and the last call of its device.
use Rattle.std.specs.Prelude.{◌≡◌, ℕ, zero, suc, ◌==◌, ℤ, Bool, true, false, ◌&&◌, if◌then◌else◌, List, [], ◌∷◌, Option, Some, None}
use Rattle.boss_model.specs.declared.answer.Mark.TheVariants as mark
use Rattle.boss_model.specs.declared.command.Command.{Command}
use Rattle.boss_model.specs.declared.command.Command.TheVariants as command
use Rattle.boss_model.specs.declared.state.Actuator.{Actuator}
use Rattle.boss_model.specs.DeviceCall.{DeviceCall}
use Rattle.boss_model.specs.Devices.{proxy_of}
use Rattle.boss_model.specs.State.{State}
use Rattle.boss_model.specs.Target.{target}
use Rattle.def_history.specs.declared.entry.Entry.{Entry}
use Rattle.def_history.specs.declared.entry.Entry.TheVariants.{Did, Broke}

abbrev pub IsSettled : State → ℕ → Type 0
IsSettled s point = (proxy_of s.proxies point).mark ≡ mark.Settled

-- the call by which a point's device took the target
abbrev pub taking_target : List Actuator → State → ℕ → DeviceCall
taking_target plant s point = record { point = point; value = target plant s.persistent point; ok = true }

-- ---- the last call of a point's device, taken or not

-- of some calls, where this was the last one before them
abbrev pub last_from : ℕ → Option DeviceCall → List DeviceCall → Option DeviceCall
last_from point before [] = before
last_from point before (call ∷ calls) = last_from point (if call.point == point then Some call else before) calls

abbrev pub last_call : ℕ → List DeviceCall → Option DeviceCall
last_call point calls = last_from point None calls

-- ---- the last value that it took

abbrev pub taken_from : ℕ → Option ℤ → List DeviceCall → Option ℤ
taken_from point before [] = before
taken_from point before (call ∷ calls) = taken_from point (if (call.point == point) && call.ok then Some call.value else before) calls

abbrev pub last_taken : ℕ → List DeviceCall → Option ℤ
last_taken point calls = taken_from point None calls

-- ---- who serves devices

-- it asks for a want, reports one, or wants a device written again
abbrev pub serves : Command → Bool
serves (command.Next driver) = true
serves (command.Report point version ok) = true
serves (command.Doubt point differs) = true
serves c = false

-- only under session 0, which no connection has
abbrev pub IsApart : Entry → Type 0
IsApart (Did zero c moment answer) = Unit {0}
IsApart (Did (suc n) c moment answer) = serves c ≡ false
IsApart (Broke session commands others) = Unit {0}
