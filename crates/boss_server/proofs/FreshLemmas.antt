-- What a worker that has not begun gives back.
use Rattle.std.proofs.Common.{◌≡◌, ℕ, ◌≤◌, List, [], ◌∷◌, refl, ap, sym, ◌∙◌}
use Rattle.boss_model.specs.Limits.{most_workers}
use Rattle.boss_model.specs.Catalogue.{actuators as points_of, Catalogue}
use Rattle.boss_lock.specs.Places.{entries_at}
use Rattle.boss_outside.specs.declared.actuators.Actuators as actuators
use Rattle.boss_shared.specs.Gates.{AreFree}
use Rattle.boss_shared.specs.declared.desk.Desk as desk
use Rattle.boss_outside_server.specs.declared.clock.Clock as clock
use Rattle.boss_outside_server.specs.declared.host.Host as host
use Rattle.boss_outside_server.specs.declared.waiter.Waiter as waiter
use Rattle.boss_outside_server.specs.Waits.{new_waited}
use Rattle.boss_worker.specs.declared.duty.Duty.{Duty}
use Rattle.boss_worker.specs.declared.duty.Duty.TheVariants.{Connections, Time, Devices}
use Rattle.boss_worker.specs.declared.flags.Flags.{Flags}
use Rattle.boss_worker.specs.Troubles.{no_flags}
use Rattle.boss_worker.specs.Workers.{served_at, faults_at, handed_at, was_at, devices_at, IsFreshDuty, IsPlaced, IsReady}
use Rattle.boss_server.specs.Making.{IsFreshClock, IsFreshWaiter}

module _ {H In Out A : Type 0} (h : host.Ghosts H In Out) (workers number : ℕ) where
  pub fresh-faults : (duty : Duty H A) → IsFreshDuty h workers number duty → faults_at h duty ≡ 0
  fresh-faults (Connections part) fresh = fresh.1.faults
  fresh-faults Time fresh = refl
  fresh-faults (Devices driver devices was) fresh = refl

  pub fresh-handed : (duty : Duty H A) → IsFreshDuty h workers number duty → handed_at h duty ≡ 0
  fresh-handed (Connections part) fresh = fresh.1.handed
  fresh-handed Time fresh = refl
  fresh-handed (Devices driver devices was) fresh = refl

  pub fresh-served : (duty : Duty H A) → IsFreshDuty h workers number duty → h.tells → served_at h duty ≡ []
  fresh-served (Connections part) fresh told = fresh.2 told
  fresh-served Time fresh told = refl
  fresh-served (Devices driver devices was) fresh told = refl

  pub fresh-placed : (duty : Duty H A) → IsFreshDuty h workers number duty → IsPlaced workers number duty
  fresh-placed (Connections part) fresh = fresh.0
  fresh-placed Time fresh = fresh
  fresh-placed (Devices driver devices was) fresh = fresh.0

  pub fresh-devices : (duty : Duty H A) → IsFreshDuty h workers number duty → devices_at duty ≡ was_at duty
  fresh-devices (Connections part) fresh = refl
  fresh-devices Time fresh = refl
  fresh-devices (Devices driver devices was) fresh = ap (λ device. device ∷ []) (sym fresh.1)

module _ {G Pass H In Out C W Bells A : Type 0} (g : desk.Ghosts G Pass) (h : host.Ghosts H In Out) (k : clock.Ghosts C) (w : waiter.Ghosts W Bells) (a : actuators.Ghosts A) where
  -- a worker made of fresh parts is ready
  pub fresh-worker : (catalogue : Catalogue) (it : G) (workers number : ℕ) (pass : Pass) (duty : Duty H A) (tick : C) (wait : W) (flags : Flags) (expected : ℕ) → g.owns it pass → g.parts pass ≡ 1 → g.mine pass ≡ [] → AreFree (g.denies it) (g.held pass) →
      points_of catalogue ≡ g.plant it → IsFreshClock k tick → IsFreshWaiter w expected wait → (w.tells → expected ≡ workers) → workers ≤ most_workers → IsFreshDuty h workers number duty → flags ≡ no_flags →
      IsReady g h k w a catalogue it workers number pass duty tick wait flags
  fresh-worker catalogue it workers number pass duty tick wait flags expected own one none free plant fresh_clock fresh_waiter told few fresh unmarked = record {
    own = own;
    one = one;
    empty = ap (entries_at (g.seen pass)) none;
    free = free;
    plant = plant;
    given = fresh_clock.given;
    clock_faults = fresh_clock.faults;
    waited = λ tells. fresh_waiter.waited tells ∙ ap new_waited (told tells);
    few = few;
    fresh = fresh;
    unmarked = unmarked;
  }
