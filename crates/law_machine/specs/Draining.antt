-- Source: own.
use Rattle.std.specs.Prelude.{◌≡◌, ℕ, suc, ◌+◌, ◌*◌, ◌<◌, ℤ, Bool, List, [], ◌∷◌, length, Option, Some, None}
use Rattle.boss_model.specs.declared.answer.Answer.{Answer}
use Rattle.boss_model.specs.declared.answer.Answer.TheVariants as answer
use Rattle.boss_model.specs.declared.command.Command.TheVariants as command
use Rattle.boss_model.specs.declared.state.Actuator.{Actuator}
use Rattle.boss_model.specs.Catalogue.{driver_of}
use Rattle.boss_model.specs.Devices.{wanting}
use Rattle.boss_model.specs.Machine.{pass_time, step}
use Rattle.boss_model.specs.State.{State}
use Rattle.boss_model.specs.Time.{moment_of}

-- what follows an answer to Next: the device is written, and whether it took the value is reported at the same moment
abbrev pub reported : List Actuator → ℕ → Bool → Answer → State → State
reported plant moment ok (answer.Want point version value) s = (step plant 0 (command.Report point version ok) moment s).state
reported plant moment ok given s = s

-- one want of a driver is served
abbrev pub serve : List Actuator → ℕ → Bool → ℕ → State → State
serve plant moment ok driver s =
    let asked = step plant 0 (command.Next driver) moment s in reported plant moment ok asked.answer asked.state

abbrev pub serve_if : List Actuator → ℕ → Bool → Option ℕ → State → State
serve_if plant moment ok None s = s
serve_if plant moment ok (Some driver) s = serve plant moment ok driver s

-- the least driver that has a want is served, again and again, as long as a device's answer is known
abbrev pub drain : List Actuator → ℕ → List Bool → State → State
drain plant moment [] s = s
drain plant moment (ok ∷ results) s = drain plant moment results (serve_if plant moment ok (wanting plant s) s)

-- how much there is to do at most: each lease that ends may make every point wanted
abbrev pub load : List Actuator → State → ℕ
load plant s = length s.persistent.leases * suc (length plant) + length s.wants

-- the load once time has passed up to a moment, which each want that is served at that moment makes less
unfoldable pub weight : List Actuator → ℕ → State → ℕ
weight plant moment s = load plant (pass_time plant (moment_of s.persistent moment) s)

-- an answer that hands a want of the driver out
pub record IsWantOf (plant : List Actuator) (driver : ℕ) (given : Answer) : Type 0 where
  pub point : ℕ
  pub version : ℕ
  pub value : ℤ
  pub asks : given ≡ answer.Want point version value
  pub driven : driver_of plant point ≡ driver
  pub known : point < length plant
