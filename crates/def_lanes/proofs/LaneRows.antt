-- A history of two workers and a failed disk, taken apart lane by lane, and what each part of it is.
use Rattle.std.proofs.Common.{◌≡◌, ℕ, pos, true, false, List, [], ◌∷◌, None, refl}
use Rattle.boss_model.specs.declared.answer.Answer.TheVariants as answer
use Rattle.boss_model.specs.declared.command.Command.TheVariants as command
use Rattle.boss_model.specs.declared.point.Kind.TheVariants.{Binary}
use Rattle.boss_model.specs.declared.state.Actuator.{Actuator}
use Rattle.def_history.specs.declared.entry.Entry.{Entry}
use Rattle.def_history.specs.declared.entry.Entry.TheVariants.{Did, Broke}
use Rattle.boss_outside_server.specs.Hosts.{Served}
use Rattle.boss_outside_server.specs.Waits.{new_waited}
use Rattle.def_lanes.specs.Lanes.{of_session, of_driver, of_time, of_nobody, only, done_in}
use Rattle.def_lanes.specs.Parts.{is_untimed, AreTimed}
use Rattle.def_lanes.specs.Works.{Course, Cut, not_cut, by_clock, visit, beat, drive, owner}

-- two points, each behind a driver of its own
abbrev plant : List Actuator
plant = record { kind = Binary; default = pos 0; driver = 0 } ∷ record { kind = Binary; default = pos 0; driver = 1 } ∷ []

-- session 3 asks a point's value; time passes; driver 1 is given a want, and reports it; and at session 5's command the disk fails
abbrev asked : Entry
asked = Did 3 (command.Status 1) 10 (answer.Ticked 10)

abbrev passed : Entry
passed = Did 0 command.Tick 20 (answer.Ticked 20)

abbrev wanted : Entry
wanted = Did 0 (command.Next 1) 30 (answer.Want 1 1 (pos 1))

abbrev reported : Entry
reported = Did 0 (command.Report 1 1 true) 40 (answer.Noted true)

abbrev broken : Entry
broken = Broke 5 ((command.Gone, 50) ∷ []) []

abbrev history : List Entry
history = asked ∷ passed ∷ wanted ∷ reported ∷ broken ∷ []

session-row : done_in plant (of_session 3) history ≡ asked ∷ []
session-row = refl

-- the mark is nobody's
mark-row : done_in plant (of_session 5) history ≡ []
mark-row = refl

nobody-row : done_in plant of_nobody history ≡ []
nobody-row = refl

time-row : done_in plant of_time history ≡ passed ∷ []
time-row = refl

driver-row : done_in plant (of_driver 1) history ≡ wanted ∷ reported ∷ []
driver-row = refl

other-driver-row : done_in plant (of_driver 0) history ≡ []
other-driver-row = refl

-- a command that nobody makes: session 0 attaches to no process
stray-row : done_in plant of_nobody (Did 0 (command.Attach (97 ∷ [])) 5 (answer.Ticked 5) ∷ history) ≡ Did 0 (command.Attach (97 ∷ [])) 5 (answer.Ticked 5) ∷ []
stray-row = refl

timed-row : AreTimed (10 ∷ 20 ∷ 30 ∷ 40 ∷ []) history
timed-row = refl

untimed-row : only (is_untimed (10 ∷ 20 ∷ 40 ∷ [])) history ≡ wanted ∷ []
untimed-row = refl

-- two workers for connections: the first one has session 3, the second one session 4; then come time, and the two drivers
abbrev ended : ℕ → Served
ended session = record { session = session; held = []; left = []; taken = []; read_faults = 0; write_faults = 0; reads = None }

abbrev course : Cut → Course
course cut = record { moments = []; cut = cut; closed = false }

owner-row : owner 2 (visit (ended 3) (course not_cut)) ≡ 0
owner-row = refl

next-owner-row : owner 2 (visit (ended 4) (course by_clock)) ≡ 1
next-owner-row = refl

time-owner-row : owner 2 (beat (new_waited 2) (course not_cut)) ≡ 2
time-owner-row = refl

driver-owner-row : owner 2 (drive 1 [] (new_waited 2) (course not_cut)) ≡ 4
driver-owner-row = refl
