-- A first script leaves a lease; a second one asks what the first would have asked. Computed from the definitions alone.
use Rattle.std.proofs.Common.{◌≡◌, pos, true, List, [], ◌∷◌, ◌++◌, None, refl}
use Rattle.std.specs.Prelude.{codes}
use Rattle.boss_model.specs.declared.answer.Answer.{Answer}
use Rattle.boss_model.specs.declared.answer.Answer.TheVariants as answer
use Rattle.boss_model.specs.declared.answer.Basis.TheVariants as basis
use Rattle.boss_model.specs.declared.answer.Mark.TheVariants as mark
use Rattle.boss_model.specs.declared.command.Command.TheVariants as command
use Rattle.boss_model.specs.declared.notice.Stage.TheVariants as stage
use Rattle.boss_model.specs.Machine.{step}
use Rattle.boss_model.specs.Run.{Call, run}
use Rattle.boss_model.specs.Settle.{first_state, opened}
use Rattle.boss_model.specs.State.{State}
use Rattle.boss_model.proofs.Building.{building, damper, lamp, fan, at, write, submit, device, a_attaches, opening}
use Rattle.def_history.specs.declared.entry.Entry.{Entry}
use Rattle.def_history.specs.declared.entry.Entry.TheVariants.{Did}
use Rattle.law_second_script.specs.Asking.{asked, answered}

-- the rows of some calls, with the answers that the machine gives
rows : State → List Call → List Entry
rows s [] = []
rows s (call ∷ calls) =
    let done = step building call.session call.command call.moment s in
    Did call.session call.command call.moment done.answer ∷ rows done.state calls

-- 45 % at priority 8 for a minute, from 1 s on; the damper takes it
left : State
left = run building (first_state building) (opening ++ a_attaches ∷ at 1000 1 (submit (write damper 45000 8 60000 ∷ [])) ∷ device 1000 damper 2 true)

-- The first script goes on: at 30 s the damper and the transaction are asked for, at 70 s the damper once more. The lease is over
-- at 61 s, and the damper takes its default.
on : List Entry
on = rows left (at 30000 1 (command.Read damper) ∷ at 30000 1 (command.Status 1) ∷ at 70000 1 (command.Read damper) ∷ device 70000 damper 3 true)

-- The second writes all devices anew at its opening, and asks the same, in another session.
second : List Entry
second = rows (opened building left.persistent)
    (device 0 damper 1 true ++ device 0 lamp 1 true ++ device 0 fan 1 true
    ++ at 30000 2 (command.Read damper) ∷ at 30000 2 (command.Status 1) ∷ at 70000 2 (command.Read damper) ∷ device 70000 damper 2 true)

answers_at_30_and_70 : List Answer
answers_at_30_and_70 =
    answer.Reading damper (pos 45000) (basis.Lease 8 1) mark.Pending 0 None ∷
    answer.Status 1 (codes "a") stage.Run 1 0 ∷
    answer.Reading damper (pos 20000) basis.Default mark.Pending 0 None ∷ []

asks_the_same : asked 0 on ≡ asked 0 second
unfolding on second step left rows
asks_the_same = refl

first_is_answered : answered on ≡ answers_at_30_and_70
unfolding on left step answers_at_30_and_70 rows
first_is_answered = refl

second_is_answered : answered second ≡ answers_at_30_and_70
unfolding second left step answers_at_30_and_70 rows
second_is_answered = refl
