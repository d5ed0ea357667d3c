-- Timelines of numbered requests, computed from the definitions alone.
use Rattle.std.proofs.Common.{◌≡◌, ℕ, List, [], ◌∷◌, ◌++◌, pos, true, refl, Some, None}
use Rattle.std.specs.Prelude.{codes}
use Rattle.std.specs.Option.{option_map}
use Rattle.boss_model.specs.declared.answer.Answer.{Answer}
use Rattle.boss_model.specs.declared.answer.Answer.TheVariants as answer
use Rattle.boss_model.specs.declared.answer.Refusal.TheVariants as refusal
use Rattle.boss_model.specs.declared.command.Command.{Command}
use Rattle.boss_model.specs.declared.command.Command.TheVariants as command
use Rattle.boss_model.specs.declared.command.Policy.TheVariants.{Abort}
use Rattle.boss_model.specs.declared.event.Act.TheVariants as act
use Rattle.boss_model.specs.declared.event.Event.{Event}
use Rattle.boss_model.specs.declared.kept.Acceptance.TheVariants as acceptance
use Rattle.boss_model.specs.Acts.{replay}
use Rattle.boss_model.specs.Machine.{step}
use Rattle.boss_model.specs.Replies.{reply_of}
use Rattle.boss_model.specs.Run.{Call, run, answers, events, replay_all}
use Rattle.boss_model.specs.Settle.{first_state, opened}
use Rattle.boss_model.specs.State.{Persistent, first_persistent}
use Rattle.boss_model.specs.Effects.{step_effect}
use Rattle.boss_model.proofs.Building.{building, damper, at, write, device, a_attaches, opening, asked, took, a_attached}
use Rattle.boss_model.proofs.Building as building

-- 45 % for a minute at the operator's level, as the request of this number
abbrev submit : ℕ → Command
submit seq = command.Submit (write damper 45000 8 60000 ∷ []) Abort seq

abbrev renew : ℕ → Command
renew seq = command.Renew 1 (pos 60000) [] seq

-- a request that is sent again is answered the same, and makes nothing; one of a lesser number is refused
abbrev sent_again : List Call
sent_again = opening ++ a_attaches ∷
    at 1000 1 (submit 5) ∷
    device 1000 damper 2 true ++
    at 2000 1 (submit 5) ∷
    at 2000 0 (command.Next 0) ∷
    at 2000 1 (submit 4) ∷ []

abbrev first_answers : List Answer
first_answers = building.opened ++ a_attached ∷
    answer.Accepted 1 61000 ∷
    took damper 2 45000 ++
    answer.Accepted 1 61000 ∷
    answer.Nothing ∷
    answer.Refused (refusal.Stale 5) ∷ []

made_once : asked sent_again ≡ first_answers
unfolding step
made_once = refl

-- the three kinds of numbered requests share their numbers
abbrev renewed_too : List Call
renewed_too = sent_again ++
    at 3000 1 (renew 6) ∷
    at 3000 1 (submit 5) ∷
    at 3000 1 (command.Cancel 1 6) ∷ []

abbrev more_answers : List Answer
more_answers = first_answers ++
    answer.Renewed 1 63000 ∷
    answer.Refused (refusal.Stale 6) ∷
    answer.Renewed 1 63000 ∷ []

one_number_space : asked renewed_too ≡ more_answers
unfolding step
one_number_space = refl

-- a request that is refused leaves its number free
refused_leaves_its_number : asked (renewed_too ++ at 3000 1 (command.Cancel 9 7) ∷ at 4000 1 (command.Cancel 1 7) ∷ device 4000 damper 3 true)
    ≡ more_answers ++
    answer.Refused refusal.UnknownTxn ∷
    answer.Cancelled 1 4000 ∷
    took damper 3 20000
unfolding step
refused_leaves_its_number = refl

-- a session that holds no process is told so before its number is looked at, and a number goes before what else is wrong
before_all_else : asked (at 1000 1 (submit 5) ∷ a_attaches ∷ at 1000 1 (submit 5) ∷ at 2000 1 (command.Submit (write damper 100001 8 60000 ∷ []) Abort 4) ∷ [])
    ≡ answer.Refused refusal.NotAttached ∷ a_attached ∷ answer.Accepted 1 61000 ∷ answer.Refused (refusal.Stale 5) ∷ []
unfolding step
before_all_else = refl

-- ---- after a stop

abbrev lasting : Persistent
lasting = (run building (first_state building) renewed_too).persistent

-- what was answered is kept: when the lease is long over, the renewal is answered as it was, and the damper has its default
after_reopening : answers building (opened building lasting)
    (device 0 damper 1 true ++ device 0 building.lamp 1 true ++ device 0 building.fan 1 true ++ a_attaches ∷ at 70000 1 (renew 6) ∷ device 70000 damper 2 true)
    ≡ took damper 1 45000 ++ took building.lamp 1 0 ++ took building.fan 1 1 ++ a_attached ∷ answer.Renewed 1 63000 ∷ took damper 2 20000
unfolding step
after_reopening = refl

kept_reply : reply_of lasting.processes 0 ≡ Some (record { seq = 6; acceptance = acceptance.Renewed 1 63000 })
unfolding step
kept_reply = refl

-- ---- events

abbrev three : List Event
three =
    record { moment = 0; act = act.Enrol (codes "a") } ∷
    record { moment = 1000; act = act.Submit 0 Abort (write damper 45000 8 60000 ∷ []) 5 } ∷
    record { moment = 3000; act = act.Renew 0 1 (pos 60000) [] 6 } ∷ []

-- what was made once leaves one event
one_event_each : events building (first_state building) renewed_too ≡ three
unfolding step step_effect
one_event_each = refl

replayed_with_its_reply : replay_all building first_persistent three ≡ Some lasting
unfolding step
replayed_with_its_reply = refl

-- a request that was made is no event again, even where time would change something
made_before : replay building (record { moment = 90000; act = act.Renew 0 1 (pos 60000) [] 6 }) lasting ≡ None
unfolding step
made_before = refl

-- a renewal that lengthens nothing changes what lasts where it is numbered
number_alone : option_map (λ d. reply_of d.processes 0) (replay building (record { moment = 3000; act = act.Renew 0 1 (pos 1000) [] 7 }) lasting)
    ≡ Some (Some (record { seq = 7; acceptance = acceptance.Renewed 1 63000 }))
unfolding step
number_alone = refl
