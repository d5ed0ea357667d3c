-- Source: own.
-- Parts as they are made, and what they were made of.
use Rattle.std.specs.Prelude.{◌≡◌, ℕ, Bool, List, [], ◌++◌}
use Rattle.std.specs.List.{AllByRecursion}
use Rattle.boss_outside_server.specs.declared.clock.Clock as clock
use Rattle.boss_outside_server.specs.declared.host.Host as host
use Rattle.boss_outside_server.specs.declared.waiter.Waiter as waiter
use Rattle.boss_outside_server.specs.Waits.{new_waited}
use Rattle.boss_outside_server.specs.declared.waited.Waited.{Waited}
use Rattle.boss_server.specs.Hosted.{RoseBy}

module _ {C : Type 0} (k : clock.Ghosts C) where
  -- it gave nothing yet, and no reading of it failed
  pub record IsFreshClock (clock : C) : Type 0 where
    pub given : k.tells → k.given clock ≡ []
    pub faults : k.faults clock ≡ 0

  -- it tells what it told before
  pub record StaysClock (old new : C) : Type 0 where
    pub given : k.tells → k.given new ≡ k.given old
    pub faults : k.faults new ≡ k.faults old

module _ {W Bells : Type 0} (w : waiter.Ghosts W Bells) where
  -- it was told that so many workers are waited for, and nothing else came to it
  pub record IsFreshWaiter (expected : ℕ) (waiter : W) : Type 0 where
    pub waited : w.tells → w.waited waiter ≡ new_waited expected

  pub record StaysWaiter (old new : W) : Type 0 where
    pub waited : w.tells → w.waited new ≡ w.waited old
    pub waits : w.tells → w.waits new ≡ w.waits old

module _ {H In Out : Type 0} (h : host.Ghosts H In Out) where
  pub record StaysHost (old new : H) : Type 0 where
    pub served : h.tells → h.served new ≡ h.served old
    pub listens : h.tells → h.listens new ≡ h.listens old
    pub faults : h.faults new ≡ h.faults old
    pub handed : RoseBy 0 (h.handed old) (h.handed new)

-- parts that never paused were taken back
pub record GainsNoPause (pausing : Type 0) (waits waits' : List Waited) : Type 0 where
  pub notes : List Waited
  pub noted : pausing → waits' ≡ waits ++ notes
  pub unpaused : pausing → AllByRecursion (λ note. note.pauses ≡ 0) notes
