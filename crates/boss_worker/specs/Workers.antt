-- Source: own.
-- A worker before it runs, and what it left.
use Rattle.std.specs.Prelude.{◌≡◌, ℕ, ◌+◌, ◌<◌, ◌≤◌, Bool, true, List, [], ◌∷◌, ◌++◌, length}
use Rattle.std.specs.List.{AllByRecursion}
use Rattle.boss_model.specs.Limits.{most_workers}
use Rattle.boss_model.specs.Catalogue.{actuators as points_of, Catalogue}
use Rattle.def_lanes.specs.Parts.{Terms}
use Rattle.def_lanes.specs.Waits.{IsNoteOf, WaitedAt}
use Rattle.def_lanes.specs.Works.{Work, calls_in}
use Rattle.boss_outside.specs.declared.actuators.Actuators as actuators
use Rattle.boss_outside_server.specs.Hosts.{Served}
use Rattle.boss_outside_server.specs.Waits.{new_waited}
use Rattle.boss_shared.specs.declared.desk.Desk as desk
use Rattle.boss_shared.specs.Gates.{AreFree}
use Rattle.boss_outside_server.specs.declared.clock.Clock as clock
use Rattle.boss_outside_server.specs.declared.host.Host as host
use Rattle.boss_outside_server.specs.declared.waiter.Waiter as waiter
use Rattle.boss_worker.specs.declared.duty.Duty.{Duty}
use Rattle.boss_worker.specs.declared.duty.Duty.TheVariants.{Connections, Time, Devices}
use Rattle.boss_worker.specs.declared.flags.Flags.{Flags}
use Rattle.boss_worker.specs.Desks.{own_of}
use Rattle.boss_worker.specs.Ended.{is_worked, AreEnded}
use Rattle.boss_worker.specs.Troubles.{no_flags}
use Rattle.boss_worker.specs.Visits.{IsFreshHost, Left}

module _ {H In Out A : Type 0} (h : host.Ghosts H In Out) where
  -- ---- what a duty's part of the host tells

  abbrev pub served_at : Duty H A → List Served
  served_at (Connections part) = h.served part
  served_at Time = []
  served_at (Devices driver devices was) = []

  abbrev pub share_at : Duty H A → ℕ
  share_at (Connections part) = h.share part
  share_at Time = 0
  share_at (Devices driver devices was) = 0

  abbrev pub handed_at : Duty H A → ℕ
  handed_at (Connections part) = h.handed part
  handed_at Time = 0
  handed_at (Devices driver devices was) = 0

  abbrev pub faults_at : Duty H A → ℕ
  faults_at (Connections part) = h.faults part
  faults_at Time = 0
  faults_at (Devices driver devices was) = 0

  -- the duty is one of the worker with this number: workers for connections have the numbers from 0 on; then comes the one that lets
  -- time pass, and then one for each driver
  abbrev pub IsFreshDuty : ℕ → ℕ → Duty H A → Type 0
  IsFreshDuty workers number (Connections part) = (number < workers) × IsFreshHost h part × (h.tells → h.served part ≡ [])
  IsFreshDuty workers number Time = number ≡ workers
  IsFreshDuty workers number (Devices driver devices was) = (number ≡ workers + 1 + driver) × (was.value ≡ devices)

module _ {H A : Type 0} where
  -- the devices of a duty, as they were handed out and as they are
  abbrev pub was_at : Duty H A → List A
  was_at (Connections part) = []
  was_at Time = []
  was_at (Devices driver devices was) = was.value ∷ []

  abbrev pub devices_at : Duty H A → List A
  devices_at (Connections part) = []
  devices_at Time = []
  devices_at (Devices driver devices was) = devices ∷ []

  -- workers for connections have the numbers from 0 on; then comes the one that lets time pass, and then one for each driver
  abbrev pub IsPlaced : ℕ → ℕ → Duty H A → Type 0
  IsPlaced workers number (Connections part) = number < workers
  IsPlaced workers number Time = number ≡ workers
  IsPlaced workers number (Devices driver devices was) = number ≡ workers + 1 + driver

-- the devices gained the calls of the works on their driver, as far as they tell their calls and miss none
abbrev pub HasCalls : {H A : Type 0} → actuators.Ghosts A → List Work → Duty H A → Type 0
HasCalls a works (Connections part) = Unit {0}
HasCalls a works Time = Unit {0}
HasCalls a works (Devices driver devices was) = a.tells → a.whole devices → a.calls devices ≡ a.calls was.value ++ calls_in driver works

module _ {G Pass H In Out C W Bells A : Type 0} (g : desk.Ghosts G Pass) (h : host.Ghosts H In Out) (k : clock.Ghosts C) (w : waiter.Ghosts W Bells) (a : actuators.Ghosts A) where
  -- a worker that has not begun: its parts are fresh, and its waiter was told how many workers are waited for
  pub record IsReady (catalogue : Catalogue) (desk : G) (workers number : ℕ) (pass : Pass) (duty : Duty H A) (clock : C) (waiter : W) (flags : Flags) : Type 0 where
    pub own : g.owns desk pass
    pub one : g.parts pass ≡ 1
    pub empty : own_of g pass ≡ []
    pub free : AreFree (g.denies desk) (g.held pass)
    pub plant : points_of catalogue ≡ g.plant desk
    pub given : k.tells → k.given clock ≡ []
    pub clock_faults : k.faults clock ≡ 0
    pub waited : w.tells → w.waited waiter ≡ new_waited workers
    pub few : workers ≤ most_workers
    pub fresh : IsFreshDuty h workers number duty
    pub unmarked : flags ≡ no_flags

  -- a worker that ran, or was never started
  pub record HasLeft (ran : Bool) (terms : Terms) (desk : G) (number : ℕ) (pass : Pass) (duty : Duty H A) (clock : C) (waiter : W) (flags : Flags) : Type 0 where
    pub own : g.owns desk pass
    pub one : g.parts pass ≡ 1
    pub works : List Work
    pub left : Left ran terms number (share_at h duty) works (own_of g pass) (g.seen pass) [] (served_at h duty) [] (k.given clock)
        (handed_at h duty) (faults_at h duty) (k.faults clock) flags
    pub called : HasCalls a works duty
    pub noted : AllByRecursion (IsNoteOf (w.waited waiter)) works
    pub waits : w.tells → WaitedAt terms.workers number works (w.waited waiter)
    pub placed : IsPlaced terms.workers number duty
    pub worked : ran ≡ true → terms.workers ≤ number → is_worked terms.workers number works ≡ true
    pub ended : AreEnded terms.plant w.tells (own_of g pass) works
