-- Timelines of devices that fail, computed from the definitions alone.
use Rattle.std.proofs.Common.{◌≡◌, [], ◌∷◌, ◌++◌, true, false, pos, None, refl}
use Rattle.boss_model.specs.declared.answer.Answer.TheVariants as answer
use Rattle.boss_model.specs.declared.answer.Basis.TheVariants as basis
use Rattle.boss_model.specs.declared.answer.Mark.TheVariants as mark
use Rattle.boss_model.specs.declared.command.Command.TheVariants as command
use Rattle.boss_model.specs.declared.command.Policy.TheVariants.{Keep}
use Rattle.boss_model.specs.declared.notice.Cause.TheVariants as cause
use Rattle.boss_model.specs.declared.notice.Stage.TheVariants as stage
use Rattle.boss_model.specs.declared.notice.What.TheVariants as what
use Rattle.std.specs.Prelude.{codes}
use Rattle.boss_model.specs.Machine.{step}
use Rattle.boss_model.proofs.Building.{damper, lamp, at, write, reverting, held, submit, notices, device, a_attaches, opening, asked, took, since, opened, a_attached, notice}

-- under abort, the first failed write ends all leases of the transaction, at the moment of its report
first_failure_under_abort : asked (opening ++ a_attaches ∷
    at 1000 1 (submit (reverting (held 30000 5000 ∷ []) (write damper 45000 8 60000) ∷ write lamp 1 8 60000 ∷ [])) ∷
    device 1000 damper 2 true ++
    device 1000 lamp 2 false ++
    device 1000 damper 3 true ++
    device 1000 lamp 3 true ++
    at 1000 1 notices ∷ [])
    ≡ opened ++ a_attached ∷
    answer.Accepted 1 61000 ∷
    took damper 2 45000 ++
    took lamp 2 1 ++
    took damper 3 30000 ++
    took lamp 3 0 ++
    answer.Notices 1 4 (
    notice 1 1000 1 (what.Fault lamp) ∷
    notice 2 1000 1 (what.Ended damper cause.Fault) ∷
    notice 3 1000 1 (what.Ended lamp cause.Fault) ∷ []) ∷ []
unfolding step
first_failure_under_abort = refl

-- under keep, the owner is told and the write is tried again after five seconds
first_failure_under_keep : asked (opening ++ a_attaches ∷
    at 1000 1 (command.Submit (write damper 45000 8 60000 ∷ write lamp 1 8 60000 ∷ []) Keep 0) ∷
    device 1000 damper 2 true ++
    device 1000 lamp 2 false ++
    at 1000 1 notices ∷
    at 5999 1 (command.Read lamp) ∷
    at 5999 0 (command.Next 0) ∷
    at 6000 1 command.Tick ∷
    device 6000 lamp 2 true)
    ≡ opened ++ a_attached ∷
    answer.Accepted 1 61000 ∷
    took damper 2 45000 ++
    took lamp 2 1 ++
    answer.Notices 1 2 (notice 1 1000 1 (what.Fault lamp) ∷ []) ∷
    answer.Reading lamp (pos 1) (basis.Lease 8 1) mark.Failed 0 (since 0 0) ∷
    answer.Nothing ∷
    answer.Ticked 1000 ∷
    took lamp 2 1
unfolding step
first_failure_under_keep = refl

-- a report of an old version changes nothing; nor does one of a point that is still to be written
old_report : asked (a_attaches ∷
    at 1000 1 (submit (write damper 45000 8 60000 ∷ [])) ∷
    at 1000 0 (command.Next 0) ∷
    at 1000 0 (command.Next 0) ∷
    at 1000 0 (command.Next 0) ∷
    at 1000 1 (submit (write damper 50000 7 60000 ∷ [])) ∷
    at 1000 0 (command.Report damper 2 false) ∷
    at 1000 1 (command.Status 1) ∷
    at 1000 0 (command.Next 0) ∷ [])
    ≡ a_attached ∷
    answer.Accepted 1 61000 ∷
    answer.Want lamp 1 (pos 0) ∷
    answer.Want 2 1 (pos 1) ∷
    answer.Want damper 2 (pos 45000) ∷
    answer.Accepted 2 61000 ∷
    answer.Noted false ∷
    answer.Status 1 (codes "a") stage.Run 1 0 ∷
    answer.Want damper 3 (pos 50000) ∷ []
unfolding step
old_report = refl

report_of_a_want : asked (at 0 0 (command.Report damper 1 true) ∷ at 0 1 (command.Read damper) ∷ [])
    ≡ answer.Noted false ∷ answer.Reading damper (pos 20000) basis.Default mark.Pending 0 None ∷ []
unfolding step
report_of_a_want = refl

-- A device that is found with another value is written again with the same version and value; nobody is told. A second doubt before the
-- report says nothing new, and a reading counts.
found_elsewhere : asked (opening ++ a_attaches ∷ at 1000 1 (submit (write damper 45000 8 60000 ∷ [])) ∷ device 1000 damper 2 true ++
    at 5000 0 (command.Doubt damper true) ∷
    at 5000 1 (command.Read damper) ∷
    at 5000 0 (command.Doubt damper true) ∷
    device 5000 damper 2 true ++
    at 6000 0 (command.Doubt damper false) ∷
    device 6000 damper 2 true ++
    at 6000 1 (command.Read damper) ∷
    at 6000 1 notices ∷ [])
    ≡ opened ++ a_attached ∷
    answer.Accepted 1 61000 ∷
    took damper 2 45000 ++
    answer.Noted true ∷
    answer.Reading damper (pos 45000) (basis.Lease 8 1) mark.Pending 1 (since 45000 1000) ∷
    answer.Noted false ∷
    took damper 2 45000 ++
    answer.Noted true ∷
    took damper 2 45000 ++
    answer.Reading damper (pos 45000) (basis.Lease 8 1) mark.Settled 1 (since 45000 1000) ∷
    answer.Notices 1 1 [] ∷ []
unfolding step
found_elsewhere = refl

-- its device is off for a while: under abort no lease ends, and the value is taken after five seconds
off_for_a_while : asked (opening ++ a_attaches ∷ at 1000 1 (submit (write damper 45000 8 60000 ∷ [])) ∷ device 1000 damper 2 true ++
    at 5000 0 (command.Doubt damper false) ∷
    device 5000 damper 2 false ++
    at 5000 1 (command.Read damper) ∷
    at 10000 1 command.Tick ∷
    device 10000 damper 2 true ++
    at 10000 1 notices ∷ [])
    ≡ opened ++ a_attached ∷
    answer.Accepted 1 61000 ∷
    took damper 2 45000 ++
    answer.Noted true ∷
    took damper 2 45000 ++
    answer.Reading damper (pos 45000) (basis.Lease 8 1) mark.Failed 0 (since 45000 1000) ∷
    answer.Ticked 1000 ∷
    took damper 2 45000 ++
    answer.Notices 1 1 [] ∷ []
unfolding step
off_for_a_while = refl
