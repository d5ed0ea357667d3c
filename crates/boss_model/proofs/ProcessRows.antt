-- Timelines of processes that come and go, computed from the definitions alone.
use Rattle.std.proofs.Common.{◌≡◌, [], ◌∷◌, ◌++◌, true, pos, refl}
use Rattle.std.specs.Prelude.{codes}
use Rattle.boss_model.specs.declared.answer.Answer.TheVariants as answer
use Rattle.boss_model.specs.declared.answer.Refusal.TheVariants as refusal
use Rattle.boss_model.specs.declared.command.Command.TheVariants as command
use Rattle.boss_model.specs.declared.notice.Cause.TheVariants as cause
use Rattle.boss_model.specs.declared.notice.What.TheVariants as what
use Rattle.boss_model.specs.Machine.{step}
use Rattle.boss_model.proofs.Building.{damper, lamp, fan, at, write, reverting, held, submit, notices, device, a_attaches, b_attaches, opening, asked, took, opened, a_attached, b_attached, notice, cancel}

-- A process that is lost lets go all its leases at that moment, and their reversions start. The next session to attach as
-- this process finds all that it was told.
lost_process : asked (opening ++ a_attaches ∷
    at 1000 1 (submit (write damper 45000 8 60000 ∷ write lamp 1 8 60000 ∷ reverting (held 3 5000 ∷ []) (write fan 2 8 60000) ∷ [])) ∷
    device 1000 damper 2 true ++ device 1000 lamp 2 true ++ device 1000 fan 2 true ++
    at 5000 1 command.Gone ∷
    device 5000 damper 3 true ++ device 5000 lamp 3 true ++ device 5000 fan 3 true ++
    at 10000 1 command.Tick ∷
    device 10000 fan 4 true ++
    at 10000 2 (command.Attach (codes "a")) ∷
    at 10000 2 notices ∷ [])
    ≡ opened ++ a_attached ∷
    answer.Accepted 1 61000 ∷
    took damper 2 45000 ++ took lamp 2 1 ++ took fan 2 2 ++
    answer.Gone 3 ∷
    took damper 3 20000 ++ took lamp 3 0 ++ took fan 3 3 ++
    answer.Ticked 10000 ∷
    took fan 4 1 ++
    answer.Attached (codes "a") 6 ∷
    answer.Notices 1 6 (
    notice 1 5000 1 (what.Ended damper cause.Died) ∷
    notice 2 5000 1 (what.Ended lamp cause.Died) ∷
    notice 3 5000 1 (what.Ended fan cause.Died) ∷
    notice 4 10000 1 (what.Reverted fan) ∷
    notice 5 10000 1 what.Done ∷ []) ∷ []
unfolding step
lost_process = refl

-- a process that another session holds
taken_process : asked (a_attaches ∷ at 0 2 (command.Attach (codes "a")) ∷ []) ≡ a_attached ∷ answer.Refused (refusal.Taken 1) ∷ []
unfolding step
taken_process = refl

-- what a session may not do without a process, with another's transaction, or a second time
refused_by_what_is_there : asked (a_attaches ∷ b_attaches ∷
    at 1000 1 (submit (write damper 45000 8 60000 ∷ [])) ∷
    at 1000 3 (submit (write damper 45000 8 60000 ∷ [])) ∷
    at 1000 2 (cancel 1) ∷
    at 1000 1 (command.Renew 1 (pos 60000) (lamp ∷ []) 0) ∷
    at 1000 1 (cancel 9) ∷
    at 1000 1 (command.Attach (codes "c")) ∷
    at 61000 1 (cancel 1) ∷
    at 61000 0 (command.Next 0) ∷ [])
    ≡ a_attached ∷ b_attached ∷
    answer.Accepted 1 61000 ∷
    answer.Refused refusal.NotAttached ∷
    answer.Refused refusal.NotYours ∷
    answer.Refused (refusal.NotInTxn 0) ∷
    answer.Refused refusal.UnknownTxn ∷
    answer.Refused (refusal.Already (codes "a")) ∷
    answer.Refused (refusal.Over 61000) ∷
    answer.Want lamp 1 (pos 0) ∷ []
unfolding step
refused_by_what_is_there = refl
