-- Timelines of leases, computed from the definitions alone.
use Rattle.std.proofs.Common.{◌≡◌, [], ◌∷◌, ◌++◌, true, refl}
use Rattle.boss_model.specs.declared.answer.Answer.TheVariants as answer
use Rattle.boss_model.specs.declared.answer.Refusal.TheVariants as refusal
use Rattle.boss_model.specs.declared.command.Command.TheVariants as command
use Rattle.boss_model.specs.declared.notice.Cause.TheVariants as cause
use Rattle.boss_model.specs.declared.notice.What.TheVariants as what
use Rattle.boss_model.specs.Machine.{step}
use Rattle.boss_model.proofs.Building.{damper, at, write, submit, renew, notices, device, a_attaches, b_attaches, opening, asked, took, opened, a_attached, b_attached, notice, cancel}

-- the devices take their defaults, and then nothing is wanted
nothing_asked : asked (opening ++ at 0 0 (command.Next 0) ∷ []) ≡ opened ++ answer.Nothing ∷ []
unfolding step
nothing_asked = refl

-- a submit is accepted, and the damper is written
one_lease : asked (opening ++ a_attaches ∷ at 1000 1 (submit (write damper 45000 8 60000 ∷ [])) ∷ device 1000 damper 2 true)
    ≡ opened ++ a_attached ∷ answer.Accepted 1 61000 ∷ took damper 2 45000
unfolding step
one_lease = refl

-- Two processes write one damper. The lower priority number wins until its lease ends, at 61,000 and not before; the
-- moment of the last change stays that of the second submit until then.
higher_priority_wins : asked (opening ++ a_attaches ∷ b_attaches ∷
    at 1000 1 (submit (write damper 45000 8 60000 ∷ [])) ∷
    device 1000 damper 2 true ++
    at 2000 2 (submit (write damper 30000 10 100000 ∷ [])) ∷
    at 2000 0 (command.Next 0) ∷
    at 60999 1 command.Tick ∷
    at 61000 1 command.Tick ∷
    device 61000 damper 3 true)
    ≡ opened ++ a_attached ∷ b_attached ∷
    answer.Accepted 1 61000 ∷
    took damper 2 45000 ++
    answer.Accepted 2 102000 ∷
    answer.Nothing ∷
    answer.Ticked 2000 ∷
    answer.Ticked 61000 ∷
    took damper 3 30000
unfolding step
higher_priority_wins = refl

-- a renewal one millisecond before the end
renewed_in_time : asked (a_attaches ∷ at 1000 1 (submit (write damper 45000 8 60000 ∷ [])) ∷ at 60999 1 (renew 1 60000) ∷ [])
    ≡ a_attached ∷ answer.Accepted 1 61000 ∷ answer.Renewed 1 120999 ∷ []
unfolding step
renewed_in_time = refl

-- a renewal at the end comes too late
renewed_at_the_end : asked (a_attaches ∷ at 1000 1 (submit (write damper 45000 8 60000 ∷ [])) ∷ at 61000 1 (renew 1 60000) ∷ [])
    ≡ a_attached ∷ answer.Accepted 1 61000 ∷ answer.Refused (refusal.Ended cause.Expired 61000 61000) ∷ []
unfolding step
renewed_at_the_end = refl

-- a tick at 70,000 finds the end at 61,000; a renewal that comes with an earlier moment is too late all the same
renewed_after_a_tick : asked (opening ++ a_attaches ∷
    at 1000 1 (submit (write damper 45000 8 60000 ∷ [])) ∷
    device 1000 damper 2 true ++
    at 70000 1 command.Tick ∷
    device 70000 damper 3 true ++
    at 60500 1 (renew 1 60000) ∷ [])
    ≡ opened ++ a_attached ∷
    answer.Accepted 1 61000 ∷
    took damper 2 45000 ++
    answer.Ticked 61000 ∷
    took damper 3 20000 ++
    answer.Refused (refusal.Ended cause.Expired 61000 61000) ∷ []
unfolding step
renewed_after_a_tick = refl

-- a later lease on the slot takes it; the earlier one does not come back, and its owner is told
superseded_for_good : asked (opening ++ a_attaches ∷ b_attaches ∷
    at 1000 1 (submit (write damper 45000 8 60000 ∷ [])) ∷
    device 1000 damper 2 true ++
    at 2000 2 (submit (write damper 50000 8 1000 ∷ [])) ∷
    device 2000 damper 3 true ++
    at 3000 1 command.Tick ∷
    device 3000 damper 4 true ++
    at 3000 1 notices ∷ [])
    ≡ opened ++ a_attached ∷ b_attached ∷
    answer.Accepted 1 61000 ∷
    took damper 2 45000 ++
    answer.Accepted 2 3000 ∷
    took damper 3 50000 ++
    answer.Ticked 3000 ∷
    took damper 4 20000 ++
    answer.Notices 1 3 (notice 1 2000 1 (what.Ended damper (cause.Superseded 2)) ∷ notice 2 2000 1 what.Done ∷ []) ∷ []
unfolding step
superseded_for_good = refl

-- a renewal never makes a lease shorter
never_shorter : asked (a_attaches ∷ at 1000 1 (submit (write damper 45000 8 60000 ∷ [])) ∷ at 2000 1 (renew 1 1000) ∷ at 60999 1 command.Tick ∷ [])
    ≡ a_attached ∷ answer.Accepted 1 61000 ∷ answer.Renewed 1 61000 ∷ answer.Ticked 2000 ∷ []
unfolding step
never_shorter = refl

-- a process that writes its own slot again supersedes itself
own_slot : asked (a_attaches ∷
    at 1000 1 (submit (write damper 45000 8 60000 ∷ [])) ∷
    at 2000 1 (submit (write damper 50000 8 60000 ∷ [])) ∷
    at 2000 1 (renew 1 60000) ∷
    at 2000 1 (cancel 1) ∷
    at 2000 1 notices ∷ [])
    ≡ a_attached ∷
    answer.Accepted 1 61000 ∷
    answer.Accepted 2 62000 ∷
    answer.Refused (refusal.Ended (cause.Superseded 2) 2000 2000) ∷
    answer.Refused (refusal.Over 2000) ∷
    answer.Notices 1 3 (notice 1 2000 1 (what.Ended damper (cause.Superseded 2)) ∷ notice 2 2000 1 what.Done ∷ []) ∷ []
unfolding step
own_slot = refl
