-- A waiter whose ringer was taken has noted what it had before, so what is said of a server from there on is said of it from before.
use Rattle.std.proofs.Common.{◌≡◌, ℕ, Bool, List, subst}
use Rattle.boss_model.specs.DeviceCall.{DeviceCall}
use Rattle.def_history.specs.declared.entry.Entry.{Entry}
use Rattle.def_lanes.specs.Parts.{Terms}
use Rattle.boss_outside_server.specs.Hosts.{Served}
use Rattle.boss_outside_server.specs.declared.waited.Waited.{Waited}
use Rattle.boss_worker.specs.declared.flags.Flags.{Flags}
use Rattle.boss_server.specs.Accounts.{Account}
use Rattle.boss_server.specs.Hosted.{Hosted}

pub from-waits : {A : Type 0} (calls : A → List DeviceCall) (whole : A → Type 0) (terms : Terms) (pausing : Type 0) (n shares : ℕ) (own seen : List Entry) (served served' : List Served)
    (given given' : List ℕ) (hosted hosted' : Hosted) (ticked ticked' : ℕ) (waits before waits' : List Waited) (was others devices : List A) (flags : Flags) (unrun : Bool) →
    waits ≡ before →
    Account calls whole terms pausing n shares own seen served served' given given' hosted hosted' ticked ticked' waits waits' was others devices flags unrun →
    Account calls whole terms pausing n shares own seen served served' given given' hosted hosted' ticked ticked' before waits' was others devices flags unrun
from-waits calls whole terms pausing n shares own seen served served' given given' hosted hosted' ticked ticked' waits before waits' was others devices flags unrun same it =
    subst (λ noted. Account calls whole terms pausing n shares own seen served served' given given' hosted hosted' ticked ticked' noted waits' was others devices flags unrun) same it
