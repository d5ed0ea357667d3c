-- Source: own.
-- All that several workers left.
use Rattle.std.specs.Prelude.{◌≡◌, ℕ, ◌+◌, ◌-◌, ◌<◌, ◌≤◌, Bool, true, false, List, ◌++◌, length}
use Rattle.boss_model.specs.DeviceCall.{DeviceCall}
use Rattle.def_history.specs.declared.entry.Entry.{Entry}
use Rattle.def_lanes.specs.Devices.{DevicesBack}
use Rattle.def_lanes.specs.Parts.{Terms}
use Rattle.def_lanes.specs.Waits.{AreWaited, AreWaitedAt}
use Rattle.def_lanes.specs.Works.{Work}
use Rattle.boss_outside_server.specs.Hosts.{Served}
use Rattle.boss_outside_server.specs.declared.waited.Waited.{Waited}
use Rattle.boss_worker.specs.declared.flags.Flags.{Flags}
use Rattle.boss_worker.specs.Ended.{is_worked, AreEnded}
use Rattle.boss_server.specs.Hosted.{Hosted}
use Rattle.boss_server.specs.Together.{Together}

module _ {A : Type 0} (calls : A → List DeviceCall) (whole : A → Type 0) (terms : Terms) (pausing : Type 0) (n : ℕ) where
  -- what came back of the workers with the numbers below n beside their connections: the devices of the drivers from 0 on, each with
  -- the calls of its driver's work; and what their waiters noted, each at the place of its worker
  pub record Returned (works : List Work) (own : List Entry) (waits waits' : List Waited) (was now : List A) (unrun : Bool) : Type 0 where
    pub drivers : length was ≡ n - (terms.workers + 1)
    pub back : DevicesBack calls whole 0 was now works
    pub notes : List Waited
    pub each : length notes ≡ n
    pub waited : AreWaited terms.workers notes works
    pub noted : pausing → waits' ≡ waits ++ notes
    -- each was told how many workers for connections are waited for, and paused and left as such a worker has to
    pub kept : pausing → AreWaitedAt terms.workers notes works
    pub ended : AreEnded terms.plant pausing own works
    -- each worker that serves no connection has done its work, unless one did not run
    pub worked : unrun ≡ false → (number : ℕ) → terms.workers ≤ number → number < n → is_worked terms.workers number works ≡ true

  -- all that the workers with the numbers below n did and left, where these devices were handed out, and the others stayed
  pub record Account (shares : ℕ) (own seen : List Entry) (served served' : List Served) (given given' : List ℕ) (hosted hosted' : Hosted) (ticked ticked' : ℕ)
      (waits waits' : List Waited) (was others devices : List A) (flags : Flags) (unrun : Bool) : Type 0 where
    pub works : List Work
    pub together : Together terms n shares works own seen served served' given given' hosted hosted' ticked ticked' flags unrun
    pub back : List A
    pub devices_are : devices ≡ back ++ others
    pub returned : Returned works own waits waits' was back unrun
