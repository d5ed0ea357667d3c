-- Source: own.
use Rattle.std.specs.Prelude.{ℕ, if◌then◌else◌, List, Option, Some, None, unwrap_or}
use Rattle.std.specs.Option.{option_map_or}
use Rattle.boss_model.specs.declared.command.Command.{Command}
use Rattle.boss_model.specs.declared.command.Command.TheVariants as command
use Rattle.boss_model.specs.declared.event.Act.{Act}
use Rattle.boss_model.specs.declared.event.Act.TheVariants as act
use Rattle.boss_model.specs.declared.event.Effect.{Effect}
use Rattle.boss_model.specs.declared.event.Effect.TheVariants as effect
use Rattle.boss_model.specs.declared.event.Event.{Event}
use Rattle.boss_model.specs.Catalogue.{Actuator}
use Rattle.boss_model.specs.Machine.{step}
use Rattle.boss_model.specs.Processes.{process_of, process_named, number_of}
use Rattle.boss_model.specs.Same.{same_persistent}
use Rattle.boss_model.specs.State.{Persistent, State}
use Rattle.boss_model.specs.Target.{in_force}
use Rattle.boss_model.specs.Time.{moment_of, tick_to}

-- the process that a command concerns: the one that it names or makes, the owner of the lease in force, or the session's own
abbrev pub concerned : Command → ℕ → State → ℕ
concerned (command.Attach name) session s = number_of s.persistent.processes (process_named s.persistent.processes name)
concerned (command.Report point version ok) session s = option_map_or (λ lease. lease.owner) (in_force s.persistent.leases point) 0
concerned c session s = unwrap_or (process_of s.attached session) 0

-- what became of a persistent part: nothing, what time alone makes of it, or more
abbrev pub effect_of : Persistent → Persistent → Persistent → ℕ → Effect
effect_of before ticked after owner =
    if same_persistent before after then effect.Unchanged else
    (if same_persistent ticked after then effect.Tick after.now else effect.Whole after.now owner)

-- the effect of a step
unfoldable pub step_effect : List Actuator → ℕ → Command → ℕ → State → Effect
step_effect plant session command moment s =
    let passed = tick_to (moment_of s.persistent moment) s.persistent in
    effect_of s.persistent passed (step plant session command moment s).state.persistent (concerned command session (record s { persistent = passed }))

-- ---- the event that does the same again

abbrev pub act_of : Command → ℕ → Act
act_of (command.Attach name) owner = act.Enrol name
act_of (command.Submit writes policy seq) owner = act.Submit owner policy writes seq
act_of (command.Renew txn length points seq) owner = act.Renew owner txn length points seq
act_of (command.Cancel txn seq) owner = act.Cancel owner txn seq
act_of command.Gone owner = act.Gone owner
act_of (command.Report point version ok) owner = act.Fault point
act_of c owner = act.Tick

abbrev pub event_of : Command → Effect → Option Event
event_of command effect.Unchanged = None
event_of command (effect.Tick moment) = Some (record { moment = moment; act = act.Tick })
event_of command (effect.Whole moment owner) = Some (record { moment = moment; act = act_of command owner })
