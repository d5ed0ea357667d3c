-- Timelines of reversions, computed from the definitions alone.
use Rattle.std.proofs.Common.{◌≡◌, List, [], ◌∷◌, ◌++◌, true, pos, None, refl}
use Rattle.std.specs.Prelude.{codes}
use Rattle.boss_model.specs.declared.answer.Answer.TheVariants as answer
use Rattle.boss_model.specs.declared.answer.Basis.TheVariants as basis
use Rattle.boss_model.specs.declared.answer.Mark.TheVariants as mark
use Rattle.boss_model.specs.declared.command.Command.{Command}
use Rattle.boss_model.specs.declared.command.Command.TheVariants as command
use Rattle.boss_model.specs.declared.command.Step.{Step}
use Rattle.boss_model.specs.declared.notice.Cause.TheVariants as cause
use Rattle.boss_model.specs.declared.notice.Notice.{Notice}
use Rattle.boss_model.specs.declared.notice.Stage.TheVariants as stage
use Rattle.boss_model.specs.declared.notice.What.TheVariants as what
use Rattle.boss_model.specs.Machine.{step}
use Rattle.boss_model.specs.Run.{run}
use Rattle.boss_model.specs.Settle.{first_state}
use Rattle.boss_model.specs.State.{State}
use Rattle.boss_model.proofs.Building.{building, damper, at, write, reverting, held, submit, notices, device, a_attaches, b_attaches, opening, asked, took, since, opened, a_attached, b_attached, notice, cancel}

-- 30,000 for five seconds, then 25,000 for five seconds
abbrev two_steps : List Step
two_steps = held 30000 5000 ∷ held 25000 5000 ∷ []

abbrev one_write : Command
one_write = submit (reverting two_steps (write damper 45000 8 60000) ∷ [])

-- each step holds from its start up to its end, and the reading says what the value rests on
steps_in_turn : asked (opening ++ a_attaches ∷ at 1000 1 one_write ∷ device 1000 damper 2 true ++
    at 61000 1 (command.Read damper) ∷
    device 61000 damper 3 true ++
    at 65999 1 (command.Read damper) ∷
    at 66000 1 (command.Read damper) ∷
    device 66000 damper 4 true ++
    at 70999 1 (command.Read damper) ∷
    at 71000 1 (command.Read damper) ∷
    device 71000 damper 5 true)
    ≡ opened ++ a_attached ∷ answer.Accepted 1 61000 ∷ took damper 2 45000 ++
    answer.Reading damper (pos 30000) (basis.Pending 8 1) mark.Pending 0 (since 45000 1000) ∷
    took damper 3 30000 ++
    answer.Reading damper (pos 30000) (basis.Pending 8 1) mark.Settled 0 (since 30000 61000) ∷
    answer.Reading damper (pos 25000) (basis.Pending 8 1) mark.Pending 0 (since 30000 61000) ∷
    took damper 4 25000 ++
    answer.Reading damper (pos 25000) (basis.Pending 8 1) mark.Settled 0 (since 25000 66000) ∷
    answer.Reading damper (pos 20000) basis.Default mark.Pending 0 (since 25000 66000) ∷
    took damper 5 20000
unfolding step
steps_in_turn = refl

abbrev after_the_write : State
after_the_write = run building (first_state building) (a_attaches ∷ at 1000 1 one_write ∷ [])

abbrev told : List Notice
told = notice 1 61000 1 (what.Ended damper cause.Expired) ∷ notice 2 71000 1 (what.Reverted damper) ∷ notice 3 71000 1 what.Done ∷ []

-- one tick long after all of it makes the same of the persistent part as ticks at each moment and one more
one_tick_or_four : (run building after_the_write (at 80000 1 command.Tick ∷ [])).persistent
    ≡ (run building after_the_write (at 61000 1 command.Tick ∷ at 66000 1 command.Tick ∷ at 71000 1 command.Tick ∷ at 80000 1 command.Tick ∷ [])).persistent
unfolding step
one_tick_or_four = refl

-- the damper is written once, and the owner is told of each moment as it was
one_tick : asked (opening ++ a_attaches ∷ at 1000 1 one_write ∷ device 1000 damper 2 true ++
    at 80000 1 command.Tick ∷
    device 80000 damper 3 true ++
    at 80000 1 notices ∷ [])
    ≡ opened ++ a_attached ∷ answer.Accepted 1 61000 ∷ took damper 2 45000 ++
    answer.Ticked 71000 ∷
    took damper 3 20000 ++
    answer.Notices 1 4 told ∷ []
unfolding step
one_tick = refl

four_ticks : asked (a_attaches ∷ at 1000 1 one_write ∷
    at 61000 1 command.Tick ∷
    at 66000 1 command.Tick ∷
    at 71000 1 command.Tick ∷
    at 80000 1 command.Tick ∷
    at 80000 1 notices ∷ [])
    ≡ a_attached ∷ answer.Accepted 1 61000 ∷
    answer.Ticked 61000 ∷
    answer.Ticked 66000 ∷
    answer.Ticked 71000 ∷
    answer.Ticked 71000 ∷
    answer.Notices 1 4 told ∷ []
unfolding step
four_ticks = refl

-- a reversion of priority 3 is masked by a live lease of priority 10, and its time runs all the same
masked_by_a_live_lease : asked (opening ++ a_attaches ∷ b_attaches ∷
    at 1000 1 (submit (reverting two_steps (write damper 45000 3 1000) ∷ [])) ∷
    device 1000 damper 2 true ++
    at 1500 2 (submit (write damper 60000 10 100000 ∷ [])) ∷
    at 1500 0 (command.Next 0) ∷
    at 2000 1 command.Tick ∷
    device 2000 damper 3 true ++
    at 7500 2 (cancel 2) ∷
    device 7500 damper 4 true)
    ≡ opened ++ a_attached ∷ b_attached ∷
    answer.Accepted 1 2000 ∷
    took damper 2 45000 ++
    answer.Accepted 2 101500 ∷
    answer.Nothing ∷
    answer.Ticked 2000 ∷
    took damper 3 60000 ++
    answer.Cancelled 2 7500 ∷
    took damper 4 25000
unfolding step
masked_by_a_live_lease = refl

-- a new lease on the slot of a reversion under way cuts it short, and it is not played to its end
cut_short : asked (a_attaches ∷ b_attaches ∷
    at 1000 1 (submit (reverting two_steps (write damper 45000 8 1000) ∷ [])) ∷
    at 3000 1 (command.Status 1) ∷
    at 3000 2 (submit (write damper 50000 8 1000 ∷ [])) ∷
    at 4000 2 (command.Read damper) ∷
    at 4000 1 (command.Status 1) ∷
    at 4000 1 notices ∷ [])
    ≡ a_attached ∷ b_attached ∷
    answer.Accepted 1 2000 ∷
    answer.Status 1 (codes "a") stage.Revert 0 1 ∷
    answer.Accepted 2 4000 ∷
    answer.Reading damper (pos 20000) basis.Default mark.Pending 0 None ∷
    answer.Status 1 (codes "a") stage.Done 0 0 ∷
    answer.Notices 1 4 (notice 1 2000 1 (what.Ended damper cause.Expired) ∷ notice 2 3000 1 (what.Cut damper 2) ∷ notice 3 3000 1 what.Done ∷ []) ∷ []
unfolding step
cut_short = refl

-- two reversions on one point: the one of the lower priority number is in force as long as it lasts
two_reversions : asked (a_attaches ∷
    at 1000 1 (submit (reverting (held 30000 5000 ∷ []) (write damper 45000 8 1000) ∷ [])) ∷
    at 1000 1 (submit (reverting (held 40000 3000 ∷ []) (write damper 45000 5 1000) ∷ [])) ∷
    at 2000 1 (command.Read damper) ∷
    at 5000 1 (command.Read damper) ∷
    at 7000 1 (command.Read damper) ∷ [])
    ≡ a_attached ∷
    answer.Accepted 1 2000 ∷
    answer.Accepted 2 2000 ∷
    answer.Reading damper (pos 40000) (basis.Pending 5 2) mark.Pending 0 None ∷
    answer.Reading damper (pos 30000) (basis.Pending 8 1) mark.Pending 0 None ∷
    answer.Reading damper (pos 20000) basis.Default mark.Pending 0 None ∷ []
unfolding step
two_reversions = refl
