-- Source: own.
-- What a server did over a keeper.
use Rattle.std.specs.Prelude.{◌≡◌, ℕ, Bool, List, length, min}
use Rattle.boss_model.specs.Catalogue.{Catalogue}
use Rattle.boss_model.specs.DeviceCall.{DeviceCall}
use Rattle.def_history.specs.declared.entry.Entry.{Entry}
use Rattle.def_history.specs.History.{is_broken}
use Rattle.def_lanes.specs.Parts.{Terms}
use Rattle.boss_shared.specs.declared.keeper.Keeper as keeper
use Rattle.boss_shared.specs.Keeping.{IsHeld}
use Rattle.boss_outside_server.specs.Hosts.{Served}
use Rattle.boss_outside_server.specs.declared.waited.Waited.{Waited}
use Rattle.boss_worker.specs.declared.flags.Flags.{Flags}
use Rattle.boss_server.specs.Accounts.{Account}
use Rattle.boss_server.specs.Hosted.{Hosted}

-- the drivers that have a device, of which each stands at its driver's number
abbrev pub drives_of : {A : Type 0} → Catalogue → List A → ℕ
drives_of catalogue devices = min (length devices) (length catalogue.drivers)

module _ {K A : Type 0} (k : keeper.Ghosts K) (calls : A → List DeviceCall) (whole : A → Type 0) (terms : Terms) (pausing : Type 0) (n : ℕ) where
  -- the keeper stands for one history from the keeper as it was handed over, which is all that the workers with the numbers below n did;
  -- the disk failed exactly where its flag stands
  pub record Ran (shares : ℕ) (start end : K) (served served' : List Served) (given given' : List ℕ) (hosted hosted' : Hosted) (ticked ticked' : ℕ)
      (waits waits' : List Waited) (was others devices : List A) (flags : Flags) (unrun : Bool) : Type 0 where
    pub log : List Entry
    pub held : IsHeld k.plant k.state k.stopped k.faults k.leaves k.passes k.keeps start end log
    pub account : Account calls whole terms pausing n shares log log served served' given given' hosted hosted' ticked ticked' waits waits' was others devices flags unrun
    pub disk : flags.disk ≡ is_broken log
