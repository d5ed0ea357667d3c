-- What the worker of a driver adds is all in the driver's lane.
use Rattle.std.proofs.Common.{◌≡◌, ℕ, zero, suc, false, true, List, [], ◌∷◌, refl, sym, ap, ◌∙◌, subst, arith}
use Rattle.std.specs.List.{AllByRecursion}
use Rattle.std.proofs.lemmas.Bool.Decides.{nat_tests}
use Rattle.boss_model.specs.declared.answer.Answer.{Answer}
use Rattle.boss_model.specs.declared.answer.Answer.TheVariants.{Want, Nothing}
use Rattle.boss_model.specs.declared.command.Command.{Command}
use Rattle.boss_model.specs.declared.command.Command.TheVariants.{Doubt, Next, Report}
use Rattle.boss_model.specs.declared.state.Actuator.{Actuator}
use Rattle.boss_model.specs.Catalogue.{driver_of}
use Rattle.boss_model.specs.Lists.{member}
use Rattle.boss_model.specs.State.{State}
use Rattle.def_history.specs.declared.entry.Entry.{Entry}
use Rattle.def_history.specs.declared.entry.Entry.TheVariants.{Did, Broke}
use Rattle.def_history.specs.History.{deeds, after_entry, IsEntryAt, IsLegal}
use Rattle.def_lanes.specs.Lanes.{of_driver, lane_of}
use Rattle.def_lanes.specs.Parts.{AreTimed, Added}
use Rattle.def_lanes.specs.Waits.{paused}
use Rattle.def_lanes.proofs.Choices.{deeds-append}
use Rattle.def_lanes.proofs.Lists.{each-append, each-parts}
use Rattle.def_lanes.proofs.Moments.{both-timed, one-timed, timed-deeds, timed-next}
use Rattle.def_lanes.proofs.Wants.{want-driver}
use Rattle.boss_lock.specs.Places.{entry_at, entries_at}
use Rattle.boss_expiry.specs.declared.end.WorkEnd.{WorkEnd}
use Rattle.boss_expiry.specs.declared.end.WorkEnd.TheVariants.{Finished, Closed, ClockFault, Stopped, DiskFault}
use Rattle.boss_expiry.specs.Ends.{cut_of}
use Rattle.boss_drive.specs.Drives.{IsDriveOf}
use Rattle.boss_drive.specs.Driving.{Write, Turn, idle, doubted, served, FitsTurn, FitsCut, Cut, nothing, at_next, at_doubt, at_reading, at_report, Made, asked, left_by, made_by, Stand, idles, Driven}

-- ---- the entries of a pass were legal where they were made

unfoldable pub WasLegal : List Actuator → Entry → Type 0
WasLegal plant entry = (at : State) × IsEntryAt plant at entry

pub all-legal : (plant : List Actuator) (entries : List Entry) (s : State) → IsLegal plant entries s → AllByRecursion (WasLegal plant) entries
unfolding WasLegal
all-legal plant [] s legal = tt
all-legal plant (entry ∷ entries) s legal = ((s, legal.0), all-legal plant entries (after_entry plant entry s) legal.2)

at-place : (P : Entry → Type 0) (entries : List Entry) (place : ℕ) → AllByRecursion P entries → AllByRecursion P (entry_at entries place)
at-place P [] place all = tt
at-place P (entry ∷ entries) zero all = (all.0, tt)
at-place P (entry ∷ entries) (suc place) all = at-place P entries place all.1

pub at-places : (P : Entry → Type 0) (entries : List Entry) (places : List ℕ) → AllByRecursion P entries → AllByRecursion P (entries_at entries places)
at-places P entries [] all = tt
at-places P entries (place ∷ places) all = each-append P (entry_at entries place) (entries_at entries places) (at-place P entries place all) (at-places P entries places all)

-- ---- the lane of what was made

module _ (plant : List Actuator) (driver : ℕ) where
  IsOwn : Entry → Type 0
  IsOwn entry = lane_of plant entry ≡ of_driver driver

  -- a want that was handed out is of a point of the driver
  own-point : (w : Write) → WasLegal plant (asked driver w) → driver_of plant w.point ≡ driver
  unfolding WasLegal
  own-point w was = want-driver plant was.0 driver w.moment w.point w.version w.value (sym was.1.1)

  left-lane : (end : WorkEnd) (cut : Cut) → FitsCut plant driver cut → AllByRecursion IsOwn (deeds (left_by driver end cut).entries)
  unfolding IsOwn
  left-lane end nothing fits = tt
  left-lane Finished (at_next moment) fits = tt
  left-lane Closed (at_next moment) fits = tt
  left-lane ClockFault (at_next moment) fits = tt
  left-lane Stopped (at_next moment) fits = tt
  left-lane DiskFault (at_next moment) fits = tt
  left-lane Finished (at_doubt moment point differs) fits = (refl, tt)
  left-lane Closed (at_doubt moment point differs) fits = (refl, tt)
  left-lane ClockFault (at_doubt moment point differs) fits = (refl, tt)
  left-lane Stopped (at_doubt moment point differs) fits = (refl, tt)
  left-lane DiskFault (at_doubt moment point differs) fits = (refl, tt)
  left-lane end (at_reading w) fits = (refl, tt)
  left-lane Finished (at_report w told) fits = (refl, tt)
  left-lane Closed (at_report w told) fits = (refl, tt)
  left-lane ClockFault (at_report w told) fits = (refl, tt)
  left-lane Stopped (at_report w told) fits = (refl, tt)
  left-lane DiskFault (at_report w told) fits = (refl, tt)

  made-lane : (turns : List Turn) (last : Made) → AllByRecursion (FitsTurn plant driver) turns → AllByRecursion (WasLegal plant) (made_by driver turns last).entries → AllByRecursion IsOwn (deeds last.entries) →
      AllByRecursion IsOwn (deeds (made_by driver turns last).entries)
  unfolding IsOwn
  made-lane [] last fits legal own = own
  made-lane (idle moment ∷ turns) last fits legal own = (refl, made-lane turns last fits.1 legal.1 own)
  made-lane (doubted moment point differs answer ∷ turns) last fits legal own =
      (refl, (ap of_driver fits.0.1, made-lane turns last fits.1 legal.1.1 own))
  made-lane (served w told answer ∷ turns) last fits legal own =
      (refl, (ap of_driver (own-point w legal.0), made-lane turns last fits.1 legal.1.1 own))

-- ---- the moments

-- two at one moment
timed-twice : (moment : ℕ) (first then : Command) (given given' : Answer) (moments : List ℕ) (entries : List Entry) → AreTimed moments entries →
    AreTimed (moment ∷ moments) (Did 0 first moment given ∷ Did 0 then moment given' ∷ entries)
timed-twice moment first then given given' moments entries timed =
    let here : member moment (moment ∷ moments) ≡ true = grind (arith, nat_tests) in
    both-timed (moment ∷ moments) (Did 0 first moment given ∷ []) (Did 0 then moment given' ∷ entries) (one-timed (moment ∷ moments) 0 moment first given here)
    (timed-next 0 moment then given' moments entries timed)

left-timed : (driver : ℕ) (end : WorkEnd) (cut : Cut) → AreTimed (left_by driver end cut).moments (left_by driver end cut).entries
left-timed driver end nothing = refl
left-timed driver Finished (at_next moment) = refl
left-timed driver Closed (at_next moment) = refl
left-timed driver ClockFault (at_next moment) = refl
left-timed driver Stopped (at_next moment) = refl
left-timed driver DiskFault (at_next moment) = refl
left-timed driver Finished (at_doubt moment point differs) = timed-next 0 moment (Next driver) Nothing [] [] refl
left-timed driver Closed (at_doubt moment point differs) = timed-next 0 moment (Next driver) Nothing [] [] refl
left-timed driver ClockFault (at_doubt moment point differs) = timed-next 0 moment (Next driver) Nothing [] [] refl
left-timed driver Stopped (at_doubt moment point differs) = timed-next 0 moment (Next driver) Nothing [] [] refl
left-timed driver DiskFault (at_doubt moment point differs) =
    timed-next 0 moment (Next driver) Nothing [] (Broke 0 ((Doubt point differs, moment) ∷ []) [] ∷ []) refl
left-timed driver end (at_reading w) = timed-next 0 w.moment (Next driver) (Want w.point w.version w.value) [] [] refl
left-timed driver Finished (at_report w told) = timed-next 0 w.moment (Next driver) (Want w.point w.version w.value) (told ∷ []) [] refl
left-timed driver Closed (at_report w told) = timed-next 0 w.moment (Next driver) (Want w.point w.version w.value) (told ∷ []) [] refl
left-timed driver ClockFault (at_report w told) = timed-next 0 w.moment (Next driver) (Want w.point w.version w.value) (told ∷ []) [] refl
left-timed driver Stopped (at_report w told) = timed-next 0 w.moment (Next driver) (Want w.point w.version w.value) (told ∷ []) [] refl
left-timed driver DiskFault (at_report w told) =
    timed-next 0 w.moment (Next driver) (Want w.point w.version w.value) (told ∷ []) (Broke 0 ((Report w.point w.version w.ok, told) ∷ []) [] ∷ []) refl

made-timed : (driver : ℕ) (turns : List Turn) (last : Made) → AreTimed last.moments last.entries → AreTimed (made_by driver turns last).moments (made_by driver turns last).entries
made-timed driver [] last timed = timed
made-timed driver (idle moment ∷ turns) last timed = timed-next 0 moment (Next driver) Nothing (made_by driver turns last).moments (made_by driver turns last).entries
    (made-timed driver turns last timed)
made-timed driver (doubted moment point differs answer ∷ turns) last timed =
    timed-twice moment (Next driver) (Doubt point differs) Nothing answer (made_by driver turns last).moments (made_by driver turns last).entries (made-timed driver turns last timed)
made-timed driver (served w told answer ∷ turns) last timed =
    timed-next 0 w.moment (Next driver) (Want w.point w.version w.value) (told ∷ (made_by driver turns last).moments)
    (Did 0 (Report w.point w.version w.ok) told answer ∷ (made_by driver turns last).entries)
    (timed-next 0 told (Report w.point w.version w.ok) answer (made_by driver turns last).moments (made_by driver turns last).entries (made-timed driver turns last timed))

-- ---- what the worker adds

module _ (plant : List Actuator) (opening : State) (seen : List Entry) (mine : List ℕ) (driver : ℕ) (clocking recording pausing : Type 0) (old new : Stand) (pauses pauses' most : ℕ) (end : WorkEnd)
    (legal : IsLegal plant seen opening) (own : new.own ≡ entries_at seen mine) (is : Driven plant driver clocking recording old new pausing pauses pauses' most end) (fresh : pausing → pauses ≡ 0) where
  made-legal : AllByRecursion (WasLegal plant) (made_by driver is.turns (left_by driver end is.last)).entries
  made-legal =
      let all : AllByRecursion (WasLegal plant) (entries_at seen mine) = at-places (WasLegal plant) seen mine (all-legal plant seen opening legal) in
      (each-parts (WasLegal plant) old.own (made_by driver is.turns (left_by driver end is.last)).entries (subst (AllByRecursion (WasLegal plant)) (sym own ∙ is.made.entries) all)).1

  pub driven-added : Added plant (of_driver driver) (IsDriveOf driver (made_by driver is.turns (left_by driver end is.last)).calls pausing pauses' (record { moments = (made_by driver is.turns (left_by driver end is.last)).moments; cut = cut_of end; closed = false })) clocking
      (made_by driver is.turns (left_by driver end is.last)).moments old.own new.own old.given new.given
  unfolding IsOwn
  driven-added =
      let last : Made = left_by driver end is.last in
      let all : Made = made_by driver is.turns last in
      record {
        more = deeds all.entries;
        grew = ap deeds is.made.entries ∙ deeds-append old.own all.entries;
        of_lane = made-lane plant driver is.turns last is.own.0 made-legal (left-lane plant driver end is.last is.own.1);
        agrees = record {
          turns = is.turns;
          last = is.last;
          end = end;
          fits = is.fits;
          entries_are = refl;
          calls_are = refl;
          moments_are = refl;
          cut_is = refl;
          waited = λ tells. is.waited tells ∙ ap (λ first. paused (idles is.turns) first) (fresh tells);
        };
        gave = is.made.gave;
        timed = timed-deeds all.moments all.entries (made-timed driver is.turns last (left-timed driver end is.last));
      }
