-- What the waiter of a worker noted that has left.
use Rattle.std.proofs.Common.{◌≡◌, ℕ, suc, ◌+◌, ◌<◌, ◌≤◌, List, [], ◌∷◌, length, Option, Some, refl, ap, sym, ◌∙◌, subst, arith}
use Rattle.boss_outside.specs.Bells.{driver_bell, time_bell}
use Rattle.boss_outside_server.specs.Pauses.{drive_pause, held_pause, tick_pause, watch_pause}
use Rattle.def_lanes.specs.Waits.{CountsClosed, IsSteady, PausedAround, PausedFor, PausedWithin, WaitedAt}
use Rattle.def_lanes.specs.Works.{Work, visit, beat, drive, owner, AreOf, served_in}
use Rattle.boss_outside_server.specs.declared.waited.Leaving.TheVariants.{NotYet, Once}
use Rattle.boss_outside_server.specs.declared.waited.Waited.{Waited}
use Rattle.boss_outside_server.specs.Waits.{after_leave, leaving_after, listening, new_waited}

-- a fresh waiter, whose worker may have listened at a bell
abbrev pub listening_at : ℕ → Option ℕ → Waited
listening_at workers bell = record (new_waited workers) { bell = bell }

-- it only paused since
fresh-steady : (workers least most : ℕ) (bell : Option ℕ) (old new : Waited) → old ≡ listening_at workers bell → PausedWithin least most old new → IsSteady least most new
fresh-steady workers least most bell old new fresh paused = paused.steady (subst (IsSteady least most) (sym fresh) refl)

fresh-told : (workers least most : ℕ) (bell : Option ℕ) (old new : Waited) → old ≡ listening_at workers bell → PausedWithin least most old new → new.expected ≡ workers
fresh-told workers least most bell old new fresh paused = paused.expected ∙ ap (λ (it : Waited). it.expected) fresh

fresh-stays : (workers least most : ℕ) (bell : Option ℕ) (old new : Waited) → old ≡ listening_at workers bell → PausedWithin least most old new → new.leaving ≡ NotYet
fresh-stays workers least most bell old new fresh paused = paused.leaving ∙ ap (λ (it : Waited). it.leaving) fresh

fresh-hears : (workers least most : ℕ) (bell : Option ℕ) (old new : Waited) → old ≡ listening_at workers bell → PausedWithin least most old new → new.bell ≡ bell
fresh-hears workers least most bell old new fresh paused = paused.bell ∙ ap (λ (it : Waited). it.bell) fresh

pub waited-connections : (workers number : ℕ) (old new : Waited) (fresh : old ≡ new_waited workers) (connections : ℕ) (own : List Work) (left : Waited) → number < workers →
    PausedAround watch_pause old new → left ≡ after_leave connections new → connections ≡ length own → CountsClosed own new → WaitedAt workers number own left
waited-connections workers number old new fresh connections own left low paused is many counted =
    let behind : record old { bell = new.bell } ≡ listening_at workers new.bell = ap (λ (it : Waited). record it { bell = new.bell }) fresh in
    subst (WaitedAt workers number own) (sym is) (record {
      told = fresh-told workers watch_pause watch_pause new.bell (record old { bell = new.bell }) new behind paused;
      serves = λ less. record {
        steady = fresh-steady workers watch_pause watch_pause new.bell (record old { bell = new.bell }) new behind paused;
        left = ap (λ leaving. leaving_after leaving connections) (fresh-stays workers watch_pause watch_pause new.bell (record old { bell = new.bell }) new behind paused) ∙ ap Once many;
      };
      closes = λ less. counted;
      ticks = λ here. absurd (omega (arith, low, here));
      drives = λ beyond. absurd (omega (arith, low, beyond));
      hears_time = λ here. absurd (omega (arith, low, here));
      hears_driver = λ driver here. absurd (omega (arith, low, here));
    })

module _ (workers number : ℕ) (old new : Waited) where
  pub waited-time : old ≡ listening time_bell (new_waited workers) → (own : List Work) → number ≡ workers → PausedFor tick_pause old new → WaitedAt workers number own new
  waited-time fresh own here paused = record {
    told = fresh-told workers tick_pause tick_pause (Some time_bell) old new fresh paused;
    serves = λ less. absurd (omega (arith, here, less));
    closes = λ less. absurd (omega (arith, here, less));
    ticks = λ is. record {
      steady = fresh-steady workers tick_pause tick_pause (Some time_bell) old new fresh paused;
      left = fresh-stays workers tick_pause tick_pause (Some time_bell) old new fresh paused;
    };
    drives = λ beyond. absurd (omega (arith, here, beyond));
    hears_time = λ is some. fresh-hears workers tick_pause tick_pause (Some time_bell) old new fresh paused;
    hears_driver = λ driver is. absurd (omega (arith, here, is));
  }

  pub waited-drive : (own : List Work) (driver : ℕ) → old ≡ listening (driver_bell driver) (new_waited workers) → number ≡ workers + 1 + driver →
      PausedWithin held_pause drive_pause old new → WaitedAt workers number own new
  waited-drive own driver fresh here paused = record {
    told = fresh-told workers held_pause drive_pause (Some (driver_bell driver)) old new fresh paused;
    serves = λ less. absurd (omega (arith, here, less));
    closes = λ less. absurd (omega (arith, here, less));
    ticks = λ is. absurd (omega (arith, here, is));
    drives = λ beyond. record {
      steady = fresh-steady workers held_pause drive_pause (Some (driver_bell driver)) old new fresh paused;
      left = fresh-stays workers held_pause drive_pause (Some (driver_bell driver)) old new fresh paused;
    };
    hears_time = λ is. absurd (omega (arith, here, is));
    hears_driver = λ other is some. fresh-hears workers held_pause drive_pause (Some (driver_bell driver)) old new fresh paused
        ∙ ap (λ (it : ℕ). Some (driver_bell it)) (let same : driver ≡ other = omega (arith, here, is) in same);
  }

-- a worker that serves no connection, before its first pause
pub waited-unrun : (workers number : ℕ) (old : Waited) → old ≡ new_waited workers → workers ≤ number → WaitedAt workers number [] old
waited-unrun workers number old fresh behind = subst (WaitedAt workers number []) (sym fresh) (record {
  told = refl;
  serves = λ less. absurd (omega (arith, behind, less));
  closes = λ less. absurd (omega (arith, behind, less));
  ticks = λ is. record { steady = refl; left = refl };
  drives = λ beyond. record { steady = refl; left = refl };
  hears_time = λ is some. absurd (omega (arith, some));
  hears_driver = λ driver is some. absurd (omega (arith, some));
})

-- a worker for connections did nothing else
visit-one : (workers number : ℕ) → number < workers → (work : Work) → (number ≤ owner workers work) × (owner workers work < suc number) → (works : List Work) →
    length (served_in (work ∷ works)) ≡ suc (length (served_in works))
visit-one workers number low (visit served course) within works = refl
visit-one workers number low (beat waited course) within works = absurd (omega (arith, low, within.1))
visit-one workers number low (drive driver calls waited course) within works = absurd (omega (arith, low, within.1))

pub visits-counted : (workers number : ℕ) → number < workers → (works : List Work) → AreOf workers number (suc number) works → length (served_in works) ≡ length works
visits-counted workers number low [] of_them = refl
visits-counted workers number low (work ∷ works) of_them =
    visit-one workers number low work of_them.0 works ∙ ap suc (visits-counted workers number low works of_them.1)
