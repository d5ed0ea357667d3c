-- Source: own.
use Rattle.std.specs.Prelude.{ℕ, ◌==◌, ℤ, true, if◌then◌else◌, List, [], ◌∷◌, Option, Some, None}
use Rattle.boss_model.specs.declared.answer.Answer.{Answer}
use Rattle.boss_model.specs.declared.answer.Answer.TheVariants as answer
use Rattle.boss_model.specs.declared.command.Command.{Command}
use Rattle.boss_model.specs.declared.command.Command.TheVariants as command
use Rattle.boss_model.specs.declared.state.Actuator.{Actuator}
use Rattle.boss_model.specs.Machine.{step}
use Rattle.boss_model.specs.Run.{Call}
use Rattle.boss_model.specs.State.{State}

-- a value that was commanded, and its version
pub record Sent : Type 0 where
  pub version : ℕ
  pub value : ℤ

-- what a point's device was last asked to take, and what it last told to have taken
pub record Heard : Type 0 where
  pub asked : Option Sent
  pub took : Option Sent

abbrev pub nothing_heard : Heard
nothing_heard = record { asked = None; took = None }

-- the device is asked by the answer to Next
abbrev pub asked_by : ℕ → Answer → Option Sent → Option Sent
asked_by point (answer.Want other version value) before = if other == point then Some (record { version = version; value = value }) else before
asked_by point given before = before

-- it tells by a report that counts
abbrev pub took_by : ℕ → Command → Answer → Heard → Option Sent
took_by point (command.Report other version true) (answer.Noted true) heard = if other == point then heard.asked else heard.took
took_by point c given heard = heard.took

abbrev pub heard_after : ℕ → Command → Answer → Heard → Heard
heard_after point c given heard = record { asked = asked_by point given heard.asked; took = took_by point c given heard }

-- what is heard of a point over some calls, by the calls and their answers alone
abbrev pub last_heard : List Actuator → ℕ → State → List Call → Heard → Heard
last_heard plant point s [] heard = heard
last_heard plant point s (call ∷ calls) heard =
    let reply = step plant call.session call.command call.moment s in
    last_heard plant point reply.state calls (heard_after point call.command reply.answer heard)
