-- Source: own.
use Rattle.std.specs.Prelude.{◌≡◌, ℕ, ◌≤◌, Bool, true, false, List, is_some, IfSome}
use Rattle.law_effects.specs.Changes.{changes}
use Rattle.boss_model.specs.declared.answer.Answer.{Answer}
use Rattle.boss_model.specs.declared.command.Command.{Command}
use Rattle.boss_model.specs.declared.command.Command.TheVariants as command
use Rattle.boss_model.specs.declared.event.Effect.{Effect}
use Rattle.boss_model.specs.declared.state.Actuator.{Actuator}
use Rattle.boss_model.specs.Effects.{concerned, step_effect}
use Rattle.boss_model.specs.Machine.{act, pass_time, step}
use Rattle.boss_model.specs.Limits.{last_moment}
use Rattle.boss_model.specs.Sound.{IsAllowed, IsSound}
use Rattle.boss_model.specs.State.{State}
use Rattle.boss_model.specs.Time.{moment_of}
use Rattle.def_history.specs.declared.outcome.Outcome.{Outcome}
use Rattle.def_history.specs.declared.outcome.Outcome.TheVariants.{Done, NoMemory}
use Rattle.boss_persistent.specs.Lasting.{persistent_of}
use Rattle.boss_engine.specs.declared.done.Deed.{Deed}
use Rattle.boss_engine.specs.declared.machine.Machine.{Machine}
use Rattle.boss_engine.specs.declared.reply.Reply.{Reply}
use Rattle.boss_engine.specs.Inside.{HasPlaces, state_of}
use Rattle.boss_engine.specs.Ready.{MayNeedMemory}
use Rattle.boss_engine.specs.Running.{Running}
use Rattle.boss_engine.specs.Replies.{IsTellable, is_told_apart, told}
use Rattle.boss_engine.specs.Settling.{AreCurrent}

-- the commands that may need memory
abbrev pub takes_memory : Command → Bool
takes_memory (command.Attach name) = true
takes_memory (command.Submit writes policy seq) = true
takes_memory (command.Notices name from most) = true
takes_memory other = false

-- the commands of drivers
abbrev pub is_a_drivers : Command → Bool
is_a_drivers (command.Next driver) = true
is_a_drivers (command.Report point version ok) = true
is_a_drivers (command.Doubt point differs) = true
is_a_drivers other = false

-- those of drivers, and those whose answer is looked up
abbrev pub is_answered_apart : Command → Bool
is_answered_apart (command.Next driver) = true
is_answered_apart (command.Report point version ok) = true
is_answered_apart (command.Doubt point differs) = true
is_answered_apart (command.Array point) = true
is_answered_apart (command.Status txn) = true
is_answered_apart (command.Notices name from most) = true
is_answered_apart (command.Points from most) = true
is_answered_apart command.Version = true
is_answered_apart other = false

-- time passed from a state up to moment n, and a command acted
pub record IsDone (plant : List Actuator) (session : ℕ) (command : Command) (n : ℕ) (s : State) (m : Machine) (deed : Deed) : Type 0 where
  pub answer : told (persistent_of m.lasting) deed.done.reply ≡ (act plant session n command (pass_time plant n s)).answer
  pub tellable : IsTellable plant (persistent_of m.lasting) deed.done.reply
  pub apart : is_answered_apart command ≡ false → is_told_apart deed.done.reply ≡ false
  pub changed : is_some deed.done.concerned ≡ changes plant session n command (pass_time plant n s)
  pub owner : IfSome deed.done.concerned (λ owner. owner ≡ concerned command session (pass_time plant n s))
  pub passed : deed.passed ≡ (pass_time plant n s).persistent.now
  pub state : state_of m ≡ (act plant session n command (pass_time plant n s)).state
  pub places : HasPlaces plant m
  pub current : AreCurrent plant m.lasting.holdings m.marks.proxies

-- a step of a command begins in this state, whose last moment was `before`, and goes up to moment n
pub record IsBegun (plant : List Actuator) (command : Command) (moment before n : ℕ) (s : State) : Type 0 where
  pub allowed : IsAllowed plant command
  pub small : moment ≤ last_moment
  pub sound : IsSound plant s
  pub first : before ≡ s.persistent.now
  pub at : n ≡ moment_of s.persistent moment

-- a step from one state to another, with what its command came to and what it did
pub record IsStep (plant : List Actuator) (session : ℕ) (command : Command) (moment : ℕ) (from to : State) (reply : Reply) (did : Effect) : Type 0 where
  pub answer : told to.persistent reply ≡ (step plant session command moment from).answer
  pub tellable : IsTellable plant to.persistent reply
  pub apart : is_answered_apart command ≡ false → is_told_apart reply ≡ false
  pub effect : did ≡ step_effect plant session command moment from
  pub state : to ≡ (step plant session command moment from).state

-- the same, with the answer itself
pub record IsTold (plant : List Actuator) (session : ℕ) (command : Command) (moment : ℕ) (from to : State) (given : Answer) (did : Effect) : Type 0 where
  pub answer : given ≡ (step plant session command moment from).answer
  pub effect : did ≡ step_effect plant session command moment from
  pub state : to ≡ (step plant session command moment from).state

-- what an outcome says of an engine: the step was done and told, or there was no memory, and nothing has changed
abbrev pub CameTo : ℕ → Command → ℕ → Running → Running → Effect → Effect → Outcome → Type 0
CameTo session command moment old new before did (Done answer) = IsTold old.plant session command moment old.state new.state answer did
CameTo session command moment old new before did NoMemory =
    (new ≡ old) × (did ≡ before) × MayNeedMemory old.plant session command old.state
CameTo session command moment old new before did other = ⊥
