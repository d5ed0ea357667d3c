-- Source: own.
-- Which bells a call rings, and when the worker for time is to be woken behind it.
use Rattle.std.specs.Prelude.{◌≡◌, ◌==◌, ◌&&◌, ◌≤◌, ◌<◌, nat_lt, ℕ, zero, suc, Bool, true, false, not, is_some, List, [], ◌∷◌, ◌++◌, find}
use Rattle.std.specs.List.{list_any, AllByRecursion}
use Rattle.boss_model.specs.declared.state.Actuator.{Actuator}
use Rattle.boss_model.specs.Catalogue.{driver_of}
use Rattle.boss_model.specs.Settle.{is_failed}
use Rattle.boss_model.specs.State.{State}
use Rattle.boss_model.specs.Time.{due}
use Rattle.boss_outside.specs.Bells.{driver_bell, first_name_bell}
use Rattle.boss_shared.specs.declared.asked.Asked.{Asked}
use Rattle.def_history.specs.declared.outcome.Outcome.{Outcome}
use Rattle.def_history.specs.declared.outcome.Outcome.TheVariants.{Done, Stopped, DiskFault, NoMemory, Denied}

-- ---- drivers

-- whether a driver has a want
abbrev pub has_want : List Actuator → State → ℕ → Bool
has_want plant s driver = is_some (find (λ point. driver_of plant point == driver) s.wants)

-- a driver has a want after a call, and had none before it
abbrev pub rises : List Actuator → State → State → ℕ → Bool
rises plant before after driver = not (has_want plant before driver) && has_want plant after driver

-- the bell of a driver, where it is to be rung
abbrev pub bell_if : Bool → ℕ → List ℕ
bell_if true driver = driver_bell driver ∷ []
bell_if false driver = []

-- the bells of the drivers below a number that have a want and had none
abbrev pub risen : List Actuator → State → State → ℕ → List ℕ
risen plant before after zero = []
risen plant before after (suc driver) = risen plant before after driver ++ bell_if (rises plant before after driver) driver

-- just these were rung, and where none was the ringer is as it was
pub record Rang {B : Type 0} (tells : Type 0) (whole : B → Type 0) (rung : B → List ℕ) (bells : List ℕ) (old new : B) : Type 0 where
  pub told : tells → whole new → whole old × (rung new ≡ rung old ++ bells)
  pub still : bells ≡ [] → new ≡ old

-- ---- those who wait for notices, and time

-- a bell of those who wait for notices of a process
abbrev pub IsNameBell : ℕ → Type 0
IsNameBell bell = first_name_bell ≤ bell

-- some bells of those were rung, and no other
abbrev pub RangNames : {B : Type 0} → Type 0 → (B → Type 0) → (B → List ℕ) → B → B → Type 0
RangNames tells whole rung old new = tells → whole new → whole old × (names : List ℕ) × AllByRecursion IsNameBell names × (rung new ≡ rung old ++ names)

-- nothing changes by time alone before this moment: nothing is due, and no failed write is tried again
pub record IsAlarm (s : State) (moment : ℕ) : Type 0 where
  pub due : (n : ℕ) → n < moment → due n s.persistent ≡ []
  pub retries : AllByRecursion (λ proxy. is_failed proxy.mark ≡ true → moment ≤ proxy.retry_at) s.proxies

-- ---- a call

-- the command was done
abbrev pub is_done : Outcome → Bool
is_done (Done answer) = true
is_done Stopped = false
is_done DiskFault = false
is_done NoMemory = false
is_done (Denied index rule) = false

-- a command of one of the callers was done
abbrev pub is_any_done : List Asked → Bool
is_any_done group = list_any (λ (asked : Asked). nat_lt 0 asked.outcomes.done) group

-- These bells were rung, and behind them some of those who wait for notices. Where something was done the alarm is one for the state
-- behind the call.
pub record Rings {B : Type 0} (tells : Type 0) (whole : B → Type 0) (rung : B → List ℕ) (alarm : B → ℕ) (bells : List ℕ) (done : Bool) (after : State) (old new : B) : Type 0 where
  pub told : tells → whole new → whole old × (names : List ℕ) × AllByRecursion IsNameBell names × (rung new ≡ rung old ++ (bells ++ names))
  pub alarmed : tells → done ≡ true → IsAlarm after (alarm new)
