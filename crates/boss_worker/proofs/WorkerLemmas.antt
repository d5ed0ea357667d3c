-- What a worker left that was ready, by its duty.
use Rattle.std.proofs.Common.{arith, ◌≡◌, ℕ, ◌≤◌, true, false, [], ◌∷◌, refl, ap, sym, ◌∙◌, subst, append-nil, List, Option}
use Rattle.std.specs.declared.snapshot.Snapshot.{Snapshot}
use Rattle.boss_model.specs.Catalogue.{actuators as points_of, Catalogue}
use Rattle.boss_model.specs.Limits.{last_number}
use Rattle.boss_outside_server.specs.Pauses.{drive_pause, held_pause, tick_pause}
use Rattle.def_history.specs.History.{deeds, is_broken}
use Rattle.def_lanes.specs.Waits.{PausedFor, PausedWithin, WaitedAt}
use Rattle.def_lanes.specs.Works.{beat, drive}
use Rattle.boss_outside_server.specs.declared.waited.Waited.{Waited}
use Rattle.boss_outside.specs.Bells.{driver_bell, time_bell}
use Rattle.boss_outside_server.specs.Waits.{listening, new_waited}
use Rattle.boss_outside.specs.declared.actuators.Actuators as actuators
use Rattle.boss_shared.specs.declared.desk.Desk as desk
use Rattle.boss_outside_server.specs.declared.clock.Clock as clock
use Rattle.boss_outside_server.specs.declared.host.Host as host
use Rattle.boss_outside_server.specs.declared.waiter.Waiter as waiter
use Rattle.boss_expiry.specs.declared.end.WorkEnd.{WorkEnd}
use Rattle.boss_expiry.specs.Ends.{ClockCause, EndCause}
use Rattle.boss_expiry.specs.Ticking.{Expired}
use Rattle.boss_drive.specs.Driving.{Stand}
use Rattle.boss_keys.specs.declared.entry.Entry.{Entry as KeyEntry}
use Rattle.boss_worker.specs.declared.duty.Duty.{Duty}
use Rattle.boss_worker.specs.declared.duty.Duty.TheVariants.{Connections, Time, Devices}
use Rattle.boss_worker.specs.declared.flags.Flags.{Flags}
use Rattle.boss_worker.specs.Desks.{own_of}
use Rattle.boss_worker.specs.declared.trouble.Trouble.{Trouble}
use Rattle.boss_worker.specs.declared.trouble.Trouble.TheVariants.{Disk}
use Rattle.boss_worker.specs.Drove.{Drove, WasTold}
use Rattle.boss_worker.specs.Saying.{terms_of}
use Rattle.boss_worker.specs.Troubles.{flags_after, trouble_of_work, ClockTrouble}
use Rattle.boss_worker.specs.Workers.{served_at, share_at, handed_at, faults_at, IsFreshDuty, IsPlaced, HasCalls, IsReady, HasLeft}
use Rattle.boss_worker.proofs.DutyLemmas.{calls-driven, driven-ended, left-driven, left-time, time-ended}
use Rattle.boss_worker.proofs.EndedLemmas.{worked-one}
use Rattle.boss_worker.proofs.LeftLemmas.{left-nothing}
use Rattle.boss_worker.proofs.WaitedLemmas.{waited-drive, waited-time}

module _ {H In Out A : Type 0} (h : host.Ghosts H In Out) (workers number : ℕ) where
  -- the other workers come behind those that serve connections
  pub behind-connections : (duty : Duty H A) → IsFreshDuty h workers number duty → ((part : H) → duty ≡ Connections part → ⊥) → workers ≤ number
  behind-connections (Connections part) fresh other = absurd (other part refl)
  behind-connections Time fresh other = omega (arith, fresh)
  behind-connections (Devices driver devices was) fresh other = omega (arith, fresh.0)

  fresh-handed : (duty : Duty H A) → IsFreshDuty h workers number duty → handed_at h duty ≡ 0
  fresh-handed (Connections part) fresh = fresh.1.handed
  fresh-handed Time fresh = refl
  fresh-handed (Devices driver devices was) fresh = refl

  fresh-faults : (duty : Duty H A) → IsFreshDuty h workers number duty → faults_at h duty ≡ 0
  fresh-faults (Connections part) fresh = fresh.1.faults
  fresh-faults Time fresh = refl
  fresh-faults (Devices driver devices was) fresh = refl

  fresh-served : (duty : Duty H A) → IsFreshDuty h workers number duty → h.tells → served_at h duty ≡ []
  fresh-served (Connections part) fresh told = fresh.2 told
  fresh-served Time fresh told = refl
  fresh-served (Devices driver devices was) fresh told = refl

  fresh-placed : (duty : Duty H A) → IsFreshDuty h workers number duty → IsPlaced workers number duty
  fresh-placed (Connections part) fresh = fresh.0
  fresh-placed Time fresh = fresh
  fresh-placed (Devices driver devices was) fresh = fresh.0

  fresh-calls : (a : actuators.Ghosts A) (duty : Duty H A) → IsFreshDuty h workers number duty → HasCalls a [] duty
  fresh-calls a (Connections part) fresh = tt
  fresh-calls a Time fresh = tt
  fresh-calls a (Devices driver devices was) fresh = λ told whole. ap a.calls (sym fresh.1) ∙ sym (append-nil (a.calls was.value))

module _ {G Pass H In Out C W Bells A : Type 0} (g : desk.Ghosts G Pass) (h : host.Ghosts H In Out) (k : clock.Ghosts C) (w : waiter.Ghosts W Bells) (a : actuators.Ghosts A) (catalogue : Catalogue) (keys : Option (List KeyEntry)) (heeds tells : Type 0)
    (it : G) (workers number : ℕ) (pass : Pass) (duty : Duty H A) (tick : C) (wait : W) (flags : Flags) (ready : IsReady g h k w a catalogue it workers number pass duty tick wait flags) where
  -- a worker that listens at a bell, and has not paused yet
  module _ (bell : ℕ) (tuned : W) (listened : w.tells → w.waited tuned ≡ listening bell (w.waited wait)) where
    tuned-fresh : w.tells → w.waited tuned ≡ listening bell (new_waited workers)
    tuned-fresh told = listened told ∙ ap (listening bell) (ready.waited told)

    pub no-pause : w.tells → (w.waited tuned).pauses ≡ 0
    no-pause told = ap (λ (it : Waited). it.pauses) (tuned-fresh told)

  pub has-left-nothing : (wait' : W) → (w.tells → WaitedAt workers number [] (w.waited wait')) → HasLeft g h k w a false (terms_of catalogue (g.denies it) keys workers heeds tells h.tells k.tells w.tells) it number pass duty tick wait' flags
  has-left-nothing wait' waits = record {
    own = ready.own;
    one = ready.one;
    works = [];
    left = left-nothing (terms_of catalogue (g.denies it) keys workers heeds tells h.tells k.tells w.tells) number (share_at h duty) (own_of g pass) (g.seen pass) (served_at h duty) (k.given tick)
        (handed_at h duty) (faults_at h duty) (k.faults tick) flags (ap deeds ready.empty) (fresh-served h workers number duty ready.fresh) ready.given
        (fresh-handed h workers number duty ready.fresh) (fresh-faults h workers number duty ready.fresh) ready.clock_faults ready.unmarked;
    called = fresh-calls h workers number a duty ready.fresh;
    noted = tt;
    waits = waits;
    placed = fresh-placed h workers number duty ready.fresh;
    worked = λ ran. absurd (let no : false ≡ true = ran in cc);
    ended = tt;
  }

  module _ (pass' : Pass) (tick' : C) (tuned wait' : W) (listened : w.tells → w.waited tuned ≡ listening time_bell (w.waited wait)) (most : ℕ) (enough : last_number ≤ most) (end : WorkEnd) (own : g.owns it pass') (parts : g.parts pass' ≡ g.parts pass) (clock : ClockCause (k.faults tick) (k.faults tick') end)
      (cause : EndCause (g.seen pass') w.tells (w.waited wait').closed (w.closes tuned) (w.closes wait') end) (paused : w.tells → PausedFor tick_pause (w.waited tuned) (w.waited wait')) where
    pub has-left-time : duty ≡ Time → Expired (own_of g pass) (own_of g pass') k.tells (k.given tick) (k.given tick') w.tells (w.waited tuned).pauses (w.waited wait').pauses most end →
        HasLeft g h k w a true (terms_of catalogue (g.denies it) keys workers heeds tells h.tells k.tells w.tells) it number pass' duty tick' wait' (flags_after (trouble_of_work end) flags)
    has-left-time is expired =
        let left = left-time catalogue (g.denies it) keys workers number heeds tells h.tells k.tells w.tells (own_of g pass) (own_of g pass') (g.seen pass') (k.given tick) (k.given tick') (k.faults tick) (k.faults tick')
        (w.waited tuned).pauses most (w.closes tuned) (w.closes wait') (w.waited wait') end flags ready.empty ready.given (no-pause time_bell tuned listened) ready.clock_faults ready.unmarked clock cause
        (subst (IsFreshDuty h workers number) is ready.fresh) expired in
        subst (λ d. HasLeft g h k w a true (terms_of catalogue (g.denies it) keys workers heeds tells h.tells k.tells w.tells) it number pass' d tick' wait' (flags_after (trouble_of_work end) flags)) (sym is)
        (record {
          own = own;
          one = parts ∙ ready.one;
          works = beat (w.waited wait') left.0 ∷ [];
          left = left.2;
          called = tt;
          noted = (refl, tt);
          waits = λ told. waited-time workers number (w.waited tuned) (w.waited wait') (tuned-fresh time_bell tuned listened told) (beat (w.waited wait') left.0 ∷ []) (subst (IsFreshDuty h workers number) is ready.fresh) (paused told);
          placed = subst (IsFreshDuty h workers number) is ready.fresh;
          worked = λ ran low. worked-one workers number (beat (w.waited wait') left.0) (subst (IsFreshDuty h workers number) is ready.fresh);
          ended = (
            (λ told few uncut. time-ended (points_of catalogue) k.tells w.tells (own_of g pass) (own_of g pass') (g.seen pass') (k.given tick) (k.given tick')
                (w.waited tuned).pauses (w.waited wait').pauses most (w.closes tuned) (w.closes wait') (w.waited wait').closed end ready.empty (no-pause time_bell tuned listened) cause enough told expired few (sym left.1 ∙ uncut)),
            tt,
          );
        })

  module _ (pass' : Pass) (tick' : C) (tuned wait' : W) (most : ℕ) (enough : last_number ≤ most) (trouble : Trouble) (own : g.owns it pass') (parts : g.parts pass' ≡ g.parts pass)
      (clock : ClockTrouble (k.faults tick) (k.faults tick') trouble) (broken : trouble ≡ Disk → is_broken (g.seen pass') ≡ true)
      (was_told : WasTold (own_of g pass) (own_of g pass') w.tells (w.waited wait').closed most trouble) (paused : w.tells → PausedWithin held_pause drive_pause (w.waited tuned) (w.waited wait')) where
    pub has-left-devices : (driver : ℕ) (devices devices' : A) (was : Snapshot A) →
        (w.tells → w.waited tuned ≡ listening (driver_bell driver) (w.waited wait)) → duty ≡ Devices driver devices was →
        Drove catalogue driver k.tells a.tells (record { own = own_of g pass; given = k.given tick; whole = a.whole devices; calls = a.calls devices })
        (record { own = own_of g pass'; given = k.given tick'; whole = a.whole devices'; calls = a.calls devices' }) w.tells (w.waited wait').pauses trouble →
        HasLeft g h k w a true (terms_of catalogue (g.denies it) keys workers heeds tells h.tells k.tells w.tells) it number pass' (Devices driver devices' was) tick' wait' (flags_after trouble flags)
    has-left-devices driver devices devices' was listened is drove =
        let fresh = subst (IsFreshDuty h workers number) is ready.fresh in
        let old : Stand = record { own = own_of g pass; given = k.given tick; whole = a.whole devices; calls = a.calls devices } in
        let new : Stand = record { own = own_of g pass'; given = k.given tick'; whole = a.whole devices'; calls = a.calls devices' } in
        record {
          own = own;
          one = parts ∙ ready.one;
          works = drive driver drove.calls (w.waited wait') drove.course ∷ [];
          left = left-driven catalogue (g.denies it) keys workers number heeds tells h.tells k.tells a.tells w.tells old new (g.seen pass') (k.faults tick) (k.faults tick') (w.waited wait') trouble flags
              ready.empty ready.given ready.clock_faults ready.unmarked clock broken driver drove fresh.0;
          called = λ told whole. calls-driven driver (w.waited wait') drove.course (a.calls was.value) (a.calls devices) (a.calls devices') drove.calls (ap a.calls fresh.1) (drove.wrote told whole).1;
          noted = (refl, tt);
          waits = λ told. waited-drive workers number (w.waited tuned) (w.waited wait') (drive driver drove.calls (w.waited wait') drove.course ∷ []) driver (tuned-fresh (driver_bell driver) tuned listened told) fresh.0 (paused told);
          placed = fresh.0;
          worked = λ ran low. worked-one workers number (drive driver drove.calls (w.waited wait') drove.course) fresh.0;
          ended = (
            driven-ended catalogue (g.denies it) keys workers number heeds tells h.tells k.tells a.tells w.tells old new (g.seen pass') (k.faults tick) (k.faults tick') (w.waited wait') trouble flags
                ready.empty ready.given ready.clock_faults ready.unmarked clock broken driver drove most enough was_told,
            tt,
          );
        }
