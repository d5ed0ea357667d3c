-- Source: own.
-- Lanes: each entry of a history belongs to a session, to a driver or to time, and each of these to one worker of a server.
use Rattle.std.specs.Prelude.{ℕ, zero, suc, ◌==◌, Bool, true, false, ◌||◌, List, filter}
use Rattle.boss_model.specs.declared.command.Command.{Command}
use Rattle.boss_model.specs.declared.command.Command.TheVariants as command
use Rattle.boss_model.specs.declared.state.Actuator.{Actuator}
use Rattle.boss_model.specs.Catalogue.{driver_of}
use Rattle.def_history.specs.declared.entry.Entry.{Entry}
use Rattle.def_history.specs.declared.entry.Entry.TheVariants.{Did, Broke}
use Rattle.def_history.specs.History.{deeds}

pub data Lane : Type 0 where
  of_session : ℕ → Lane
  of_driver : ℕ → Lane
  of_time : Lane
  of_nobody : Lane

-- a command of session 0, which no connection has: a point's report, its doubt and its reading are its driver's
abbrev pub lane_of_command : List Actuator → Command → Lane
lane_of_command plant command.Tick = of_time
lane_of_command plant (command.Next driver) = of_driver driver
lane_of_command plant (command.Report point version ok) = of_driver (driver_of plant point)
lane_of_command plant (command.Doubt point differs) = of_driver (driver_of plant point)
lane_of_command plant (command.Read point) = of_driver (driver_of plant point)
lane_of_command plant other = of_nobody

abbrev pub lane_of : List Actuator → Entry → Lane
lane_of plant (Did zero command moment answer) = lane_of_command plant command
lane_of plant (Did (suc n) command moment answer) = of_session (suc n)
lane_of plant (Broke session commands others) = of_nobody

abbrev pub is_lane : Lane → Lane → Bool
is_lane (of_session s) (of_session t) = s == t
is_lane (of_driver d) (of_driver e) = d == e
is_lane of_time of_time = true
is_lane of_nobody of_nobody = true
is_lane one other = false

abbrev pub in_lane : List Actuator → Lane → Entry → Bool
in_lane plant lane entry = is_lane lane (lane_of plant entry)

-- what was done that passes a test. A mark is nothing that was done
abbrev pub only : (Entry → Bool) → List Entry → List Entry
only test entries = filter test (deeds entries)

-- what was done in a lane
abbrev pub done_in : List Actuator → Lane → List Entry → List Entry
done_in plant lane entries = only (in_lane plant lane) entries

-- in one of two lanes
abbrev pub in_either : List Actuator → Lane → Lane → Entry → Bool
in_either plant lane other entry = in_lane plant lane entry || in_lane plant other entry
