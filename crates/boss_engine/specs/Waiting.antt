-- Source: own.
use Rattle.std.specs.Prelude.{ℕ, List, map, Option, Some, None}
use Rattle.boss_model.specs.declared.answer.Answer.{Answer}
use Rattle.boss_model.specs.declared.answer.Answer.TheVariants as answer
use Rattle.boss_model.specs.declared.state.Actuator.{Actuator}
use Rattle.boss_model.specs.State.{Persistent, Attachment, State}
use Rattle.boss_marks.specs.declared.marks.Want.{Want}
use Rattle.boss_marks.specs.Marks.{Marks}

-- the driver of each point, in their order
abbrev pub drivers_of : List Actuator → List ℕ
drivers_of plant = map (λ actuator. actuator.driver) plant

-- the machine's state, of which the marks keep the part that tells of devices
abbrev pub state_of : Persistent → List Attachment → Marks → State
state_of d attached marks = record { persistent = d; attached = attached; proxies = marks.proxies; wants = marks.wants }

-- what a driver that asks for its next want is answered
abbrev pub want_answer : Option Want → Answer
want_answer None = answer.Nothing
want_answer (Some want) = answer.Want want.point want.version want.value
