-- A damper whose device fails once, and a lamp whose device took a value that was not reported. Computed from the definitions alone.
use Rattle.std.proofs.Common.{◌≡◌, ℕ, pos, Bool, true, false, List, [], ◌∷◌, ◌++◌, Some, refl}
use Rattle.boss_model.specs.declared.answer.Mark.TheVariants as mark
use Rattle.boss_model.specs.declared.command.Command.TheVariants as command
use Rattle.boss_model.specs.declared.command.Policy.TheVariants.{Keep}
use Rattle.boss_model.specs.DeviceCall.{DeviceCall}
use Rattle.boss_model.specs.Devices.{proxy_of}
use Rattle.boss_model.specs.Machine.{step}
use Rattle.boss_model.specs.Run.{Call, run}
use Rattle.boss_model.specs.Settle.{first_state}
use Rattle.boss_model.specs.State.{State}
use Rattle.boss_model.proofs.Building.{building, damper, lamp, fan, at, write, device, a_attaches, opening}
use Rattle.law_settled.specs.Settled.{IsSettled, taking_target, last_call, last_taken}

call : ℕ → ℕ → Bool → DeviceCall
call point value ok = record { point = point; value = pos value; ok = ok }

-- all devices take their defaults; at 1 s 45 % is asked of the damper at priority 8 for a minute, and its device fails
first_calls : List Call
first_calls = opening ++ a_attaches ∷ at 1000 1 (command.Submit (write damper 45000 8 60000 ∷ []) Keep 0) ∷ device 1000 damper 2 false

failing : State
failing = run building (first_state building) first_calls

called : List DeviceCall
called = call damper 20000 true ∷ call lamp 0 true ∷ call fan 1 true ∷ call damper 45000 false ∷ []

-- the damper is not settled, and what its device took last is not its target
failed_row : (proxy_of failing.proxies damper).mark ≡ mark.Failed
unfolding failing first_calls step
failed_row = refl

stale_row : last_taken damper called ≡ Some (pos 20000)
unfolding called call
stale_row = refl

-- at 7 s the device is written again, and takes the value
mended : State
mended = run building failing (device 7000 damper 2 true)

called_again : List DeviceCall
called_again = called ++ call damper 45000 true ∷ []

settled_row : IsSettled mended damper
unfolding mended failing first_calls step
settled_row = refl

last_row : last_call damper called_again ≡ Some (taking_target building mended damper)
unfolding called_again called call mended failing first_calls step
last_row = refl

taken_row : last_taken damper called_again ≡ Some (pos 45000)
unfolding called_again called call
taken_row = refl

-- the lamp and the fan stand as they were set first
lamp_row : last_call lamp called_again ≡ Some (taking_target building mended lamp)
unfolding called_again called call mended failing first_calls step
lamp_row = refl

-- at 8 s the lamp is to be on; its device takes the value, and the clock fails before the report: it is not settled
cut : State
cut = run building mended (at 8000 1 (command.Submit (write lamp 1 8 60000 ∷ []) Keep 0) ∷ at 8000 0 (command.Next 0) ∷ [])

cut_row : (proxy_of cut.proxies lamp).mark ≡ mark.Pending
unfolding cut mended failing first_calls step
cut_row = refl

still_row : IsSettled cut damper
unfolding cut mended failing first_calls step
still_row = refl
