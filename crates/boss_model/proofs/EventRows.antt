-- What a timeline leaves in a journal, computed from the definitions alone.
use Rattle.std.proofs.Common.{◌≡◌, List, [], ◌∷◌, ◌++◌, true, refl, Some, None}
use Rattle.std.specs.Prelude.{codes}
use Rattle.boss_model.specs.declared.command.Command.TheVariants as command
use Rattle.boss_model.specs.declared.command.Policy.TheVariants.{Abort}
use Rattle.boss_model.specs.declared.event.Act.TheVariants as act
use Rattle.boss_model.specs.declared.event.Event.{Event}
use Rattle.boss_model.specs.Acts.{replay}
use Rattle.boss_model.specs.Effects.{step_effect}
use Rattle.boss_model.specs.Machine.{step}
use Rattle.boss_model.specs.Run.{Call, run, events, replay_all}
use Rattle.boss_model.specs.Settle.{first_state}
use Rattle.boss_model.specs.State.{State, first_persistent}
use Rattle.boss_model.proofs.Building.{building, damper, at, write, submit, device, a_attaches, opening}

-- devices that take their values, a second attach of the same name, and a tick with nothing due leave no event; a read that
-- finds the end of a lease leaves one, at the moment of that end
abbrev a_day : List Call
a_day = opening ++ a_attaches ∷
    at 1000 1 (submit (write damper 45000 8 60000 ∷ [])) ∷
    device 1000 damper 2 true ++
    at 2000 1 (command.Attach (codes "a")) ∷
    at 60999 1 command.Tick ∷
    at 70000 1 (command.Read damper) ∷ []

abbrev the_end : State
the_end = run building (first_state building) a_day

abbrev three : List Event
three =
    record { moment = 0; act = act.Enrol (codes "a") } ∷
    record { moment = 1000; act = act.Submit 0 Abort (write damper 45000 8 60000 ∷ []) 0 } ∷
    record { moment = 61000; act = act.Tick } ∷ []

three_events : events building (first_state building) a_day ≡ three
unfolding step step_effect
three_events = refl

-- done again from the first state, they give what outlasts a stop
done_again : replay_all building first_persistent three ≡ Some the_end.persistent
unfolding step
done_again = refl

-- an event that changes nothing is no event of this state: a tick before anything is due, and a process that is known already
not_effective : replay building (record { moment = 60999; act = act.Tick }) (run building (first_state building) (a_attaches ∷ at 1000 1 (submit (write damper 45000 8 60000 ∷ [])) ∷ [])).persistent ≡ None
unfolding step
not_effective = refl

known_already : replay building (record { moment = 60999; act = act.Enrol (codes "a") }) (run building (first_state building) (a_attaches ∷ at 1000 1 (submit (write damper 45000 8 60000 ∷ [])) ∷ [])).persistent ≡ None
unfolding step
known_already = refl
