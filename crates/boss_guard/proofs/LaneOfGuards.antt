-- What a guarded worker adds is all in its driver's lane.
use Rattle.std.proofs.Common.{◌≡◌, ◌⊎◌, inl, inr, ℕ, false, zero, suc, max, map, List, [], ◌∷◌, ◌++◌, Option, Some, None, refl, sym, ap, ◌∙◌, subst}
use Rattle.std.specs.List.{AllByRecursion}
use Rattle.boss_model.specs.declared.command.Command.{Command}
use Rattle.boss_model.specs.declared.command.Command.TheVariants.{Doubt, Next, Read, Report}
use Rattle.boss_model.specs.declared.state.Actuator.{Actuator}
use Rattle.boss_model.specs.Catalogue.{Catalogue, Point, actuators, driver_of}
use Rattle.boss_model.specs.DeviceCall.{DeviceCall}
use Rattle.boss_model.specs.State.{State}
use Rattle.def_history.specs.declared.entry.Entry.{Entry}
use Rattle.def_history.specs.declared.entry.Entry.TheVariants.{Did}
use Rattle.def_history.specs.History.{deeds}
use Rattle.def_lanes.specs.Lanes.{of_driver, lane_of}
use Rattle.def_lanes.specs.Parts.{Added}
use Rattle.def_lanes.specs.Waits.{paused}
use Rattle.def_lanes.proofs.Choices.{deeds-append}
use Rattle.def_lanes.proofs.Lists.{each-append, each-parts}
use Rattle.def_lanes.proofs.Moments.{timed-deeds}
use Rattle.def_lanes.proofs.Wants.{want-driver}
use Rattle.def_guards.specs.declared.guard.Due.{Due}
use Rattle.def_guards.specs.Guards.{guard_of, guards_of}
use Rattle.def_guards.specs.Acts.{Watch, Decision, Reason, passed, shown, Act, wrote, kept, guard_at}
use Rattle.def_guards.specs.Turns.{Turn, Doubt as Doubted, AreTurns, after_turn, after_turns, idles, WriteCut, at_clock, at_report, TryCut, at_read, at_write, Cut, nothing, at_next, in_turn, at_doubt, FitsCut}
use Rattle.def_guards.proofs.Wants.{OfWant, OfDecision, OfAct, OfTurn, OfCut, AreGiven, GivenCut, Holds, turns_all, cut_all}
use Rattle.boss_lock.specs.Places.{entries_at}
use Rattle.boss_expiry.specs.declared.end.WorkEnd.{WorkEnd}
use Rattle.boss_expiry.specs.declared.end.WorkEnd.TheVariants.{Finished, Closed, ClockFault, Stopped, DiskFault}
use Rattle.boss_expiry.specs.Ends.{cut_of, mark}
use Rattle.boss_drive.specs.Driving.{Made, Stand, Gained}
use Rattle.boss_drive.proofs.Laning.{WasLegal, all-legal, at-places}
use Rattle.boss_shared.specs.Passes.{IsPassOf}
use Rattle.boss_guard.specs.declared.end.GuardEnd.{GuardEnd}
use Rattle.boss_guard.specs.declared.end.GuardEnd.TheVariants.{Worked, NoMemory}
use Rattle.boss_guard.specs.GuardDrives.{IsGuardOf}
use Rattle.def_lanes.specs.Works.{Cut as Cutting, by_memory}
use Rattle.boss_guard.specs.Guarding.{cut_of_guard, Guarded, start}
use Rattle.boss_guard.specs.Making.{answer_for, reads, made_by_act, made_by_acts, doubts, made_before, made_in, made_in_turns, made_by, left_by, left_by_try, left_by_write}
use Rattle.boss_guard.specs.Trying.{FitsDoubt, IsOwnTurn, Leaves}
use Rattle.boss_guard.proofs.Timing.{guarded_timed}

module _ (plant : List Actuator) (driver : ℕ) where
  -- the want is of a point of the driver
  abbrev IsMine : Due → Type 0
  IsMine want = driver_of plant want.point ≡ driver

  abbrev IsOwn : Entry → Type 0
  IsOwn entry = lane_of plant entry ≡ of_driver driver

  -- ---- the wants that were given

  given_of : (moment : ℕ) (want : Option Due) → WasLegal plant (Did 0 (Next driver) moment (answer_for want)) → OfWant IsMine want
  unfolding WasLegal
  given_of moment None was = tt
  given_of moment (Some want) was = want-driver plant was.0 driver moment want.point want.version want.value (sym was.1.1)

  given_turns : (turns : List Turn) (watch : Watch) → AllByRecursion (WasLegal plant) (made_in_turns driver watch turns).entries → AreGiven IsMine turns
  given_turns [] watch legal = tt
  given_turns (turn ∷ turns) watch legal =
      let parts = each-parts (WasLegal plant) (made_in driver watch turn).entries (made_in_turns driver (after_turn turn watch) turns).entries legal in
      (given_of (max watch.now turn.reading) turn.want parts.0.0, given_turns turns (after_turn turn watch) parts.1)

  given_cut : (end : WorkEnd) (watch : Watch) (last : Cut) → AllByRecursion (WasLegal plant) (left_by driver end watch last).entries → GivenCut IsMine last
  given_cut end watch nothing legal = tt
  given_cut end watch (at_next reading) legal = tt
  given_cut end watch (in_turn turn d cut) legal = given_of (max watch.now turn.reading) turn.want legal.0
  given_cut end watch (at_doubt turn point differs) legal = given_of (max watch.now turn.reading) turn.want legal.0

  -- ---- the lane of what was made

  deeds_both : (xs ys : List Entry) → AllByRecursion IsOwn (deeds xs) → AllByRecursion IsOwn (deeds ys) → AllByRecursion IsOwn (deeds (xs ++ ys))
  deeds_both xs ys first next = subst (AllByRecursion IsOwn) (sym (deeds-append xs ys)) (each-append IsOwn (deeds xs) (deeds ys) first next)

  mark_own : (command : Command) (moment : ℕ) (end : WorkEnd) → AllByRecursion IsOwn (deeds (mark command moment end))
  mark_own command moment Finished = tt
  mark_own command moment Closed = tt
  mark_own command moment ClockFault = tt
  mark_own command moment Stopped = tt
  mark_own command moment DiskFault = tt

  reads_own : (d : Decision) (reason : Reason) → OfDecision IsMine d → AllByRecursion IsOwn (deeds (reads d reason))
  reads_own d passed mine = tt
  reads_own d (shown answer) mine = (ap of_driver mine, tt)

  act_own : (act : Act) → OfAct IsMine act → AllByRecursion IsOwn (deeds (made_by_act act).entries)
  act_own (wrote d reason ok told answer) mine =
      deeds_both (reads d reason) (Did 0 (Report d.point d.version ok) (max d.now told) answer ∷ []) (reads_own d reason mine) (ap of_driver mine, tt)
  act_own (kept d answer) mine = (ap of_driver mine, tt)

  acts_own : (acts : List Act) → AllByRecursion (OfAct IsMine) acts → AllByRecursion IsOwn (deeds (made_by_acts acts).entries)
  acts_own [] mine = tt
  acts_own (act ∷ acts) mine = deeds_both (made_by_act act).entries (made_by_acts acts).entries (act_own act mine.0) (acts_own acts mine.1)

  -- a turn up to a doubt
  before_own : (watch : Watch) (turn : Turn) → OfTurn IsMine turn → AllByRecursion IsOwn (deeds (made_before driver watch turn).entries)
  before_own watch turn mine = (refl, acts_own turn.acts mine)

  -- a doubt is of a point of the driver
  doubt_own : (moment : ℕ) (turn : Turn) (doubt : Option Doubted) → FitsDoubt plant driver turn doubt → AllByRecursion IsOwn (deeds (doubts moment doubt))
  doubt_own moment turn None fits = tt
  doubt_own moment turn (Some doubt) fits = (ap of_driver fits.0.1, tt)

  turns_own : (turns : List Turn) (watch : Watch) → AllByRecursion (OfTurn IsMine) turns → AllByRecursion (IsOwnTurn plant driver) turns →
      AllByRecursion IsOwn (deeds (made_in_turns driver watch turns).entries)
  turns_own [] watch mine own = tt
  turns_own (turn ∷ turns) watch mine own =
      let doubt : List Entry = doubts (after_turn turn watch).now turn.doubt in
      deeds_both (made_in driver watch turn).entries (made_in_turns driver (after_turn turn watch) turns).entries
      (deeds_both (made_before driver watch turn).entries doubt (before_own watch turn mine.0) (doubt_own (after_turn turn watch).now turn turn.doubt own.0))
      (turns_own turns (after_turn turn watch) mine.1 own.1)

  write_own : (end : WorkEnd) (d : Decision) (cut : WriteCut) → AllByRecursion IsOwn (deeds (left_by_write end d cut).entries)
  write_own end d (at_clock ok) = tt
  write_own end d (at_report ok told) = mark_own (Report d.point d.version ok) (max d.now told) end

  try_own : (end : WorkEnd) (d : Decision) (cut : TryCut) → OfDecision IsMine d → AllByRecursion IsOwn (deeds (left_by_try end d cut).entries)
  try_own end d at_read mine = mark_own (Read d.point) d.now end
  try_own end d (at_write reason cut) mine = deeds_both (reads d reason) (left_by_write end d cut).entries (reads_own d reason mine) (write_own end d cut)

  cut_own : (end : WorkEnd) (watch : Watch) (last : Cut) → OfCut IsMine last → AllByRecursion IsOwn (deeds (left_by driver end watch last).entries)
  cut_own end watch nothing mine = tt
  cut_own end watch (at_next reading) mine = mark_own (Next driver) (max watch.now reading) end
  cut_own end watch (in_turn turn d cut) mine = deeds_both (made_before driver watch turn).entries (left_by_try end d cut).entries (before_own watch turn mine.0) (try_own end d cut mine.1)
  cut_own end watch (at_doubt turn point differs) mine =
      deeds_both (made_before driver watch turn).entries (mark (Doubt point differs) (after_turn turn watch).now end) (before_own watch turn mine)
      (mark_own (Doubt point differs) (after_turn turn watch).now end)

  made_own : (end : WorkEnd) (watch : Watch) (turns : List Turn) (last : Cut) → AllByRecursion (WasLegal plant) (made_by driver end watch turns last).entries →
      AreTurns watch turns → FitsCut (after_turns turns watch) last → AllByRecursion (IsOwnTurn plant driver) turns → Holds IsMine watch.guards →
      AllByRecursion IsOwn (deeds (made_by driver end watch turns last).entries)
  made_own end watch turns last legal are fits own holds =
      let parts = each-parts (WasLegal plant) (made_in_turns driver watch turns).entries (left_by driver end (after_turns turns watch) last).entries legal in
      let before = turns_all IsMine turns watch are (given_turns turns watch parts.0) holds in
      deeds_both (made_in_turns driver watch turns).entries (left_by driver end (after_turns turns watch) last).entries (turns_own turns watch before.0 own)
      (cut_own end (after_turns turns watch) last (cut_all IsMine last (after_turns turns watch) fits (given_cut end (after_turns turns watch) last parts.1) before.1))

-- ---- what the worker adds

none_held : (points : List Point) (place : ℕ) → (guard_at (map guard_of points) place).held ≡ None
none_held [] place = refl
none_held (point ∷ points) zero = refl
none_held (point ∷ points) (suc place) = none_held points place

nothing_held : (P : Due → Type 0) (catalogue : Catalogue) → Holds P (guards_of catalogue)
nothing_held P catalogue place held is = let none : (guard_at (guards_of catalogue) place).held ≡ None = none_held catalogue.points place in absurd cc

module _ (catalogue : Catalogue) (opening : State) (seen : List Entry) (mine : List ℕ) (driver : ℕ) (clocking recording pausing : Type 0) (old new : Stand) (pauses pauses' : ℕ)
    (pass : IsPassOf (actuators catalogue) opening seen mine) (own : new.own ≡ entries_at seen mine) (fresh : pausing → pauses ≡ 0) where
  turned_adds : (end : WorkEnd) (cut : Cutting) (turns : List Turn) (last : Cut) → (cut ≡ cut_of end) ⊎ ((cut ≡ by_memory) × (turns ≡ [])) → AreTurns (start (guards_of catalogue)) turns → FitsCut (after_turns turns (start (guards_of catalogue))) last →
      AllByRecursion (IsOwnTurn (actuators catalogue) driver) turns → Leaves end last → Gained clocking recording old new (made_by driver end (start (guards_of catalogue)) turns last) → (pausing → pauses' ≡ paused (idles turns) pauses) →
      Added (actuators catalogue) (of_driver driver) (IsGuardOf catalogue driver (made_by driver end (start (guards_of catalogue)) turns last).calls pausing pauses'
      (record { moments = (made_by driver end (start (guards_of catalogue)) turns last).moments; cut = cut; closed = false })) clocking (made_by driver end (start (guards_of catalogue)) turns last).moments old.own new.own old.given new.given
  turned_adds end cut turns last cut_is are fits doubted leaves made waited =
      let all : Made = made_by driver end (start (guards_of catalogue)) turns last in
      let legal : AllByRecursion (WasLegal (actuators catalogue)) all.entries =
      (each-parts (WasLegal (actuators catalogue)) old.own all.entries (subst (AllByRecursion (WasLegal (actuators catalogue))) (sym own ∙ made.entries)
      (at-places (WasLegal (actuators catalogue)) seen mine (all-legal (actuators catalogue) seen opening pass.legal)))).1 in
      record {
        more = deeds all.entries;
        grew = ap deeds made.entries ∙ deeds-append old.own all.entries;
        of_lane = made_own (actuators catalogue) driver end (start (guards_of catalogue)) turns last legal are fits doubted (nothing_held (IsMine (actuators catalogue) driver) catalogue);
        agrees = record {
          turns = turns;
          last = last;
          end = end;
          are = are;
          fits = fits;
          leaves = leaves;
          entries_are = refl;
          calls_are = refl;
          moments_are = refl;
          cut_is = cut_is;
          waited = λ tells. waited tells ∙ ap (paused (idles turns)) (fresh tells);
        };
        gave = made.gave;
        timed = timed-deeds all.moments all.entries (guarded_timed driver end (guards_of catalogue) turns last are fits);
      }

  pub guarded_adds : (most : ℕ) (end : GuardEnd) → Guarded (actuators catalogue) driver (guards_of catalogue) clocking recording old new pausing pauses pauses' most end →
      (calls : List DeviceCall) × (moments : List ℕ)
      × Added (actuators catalogue) (of_driver driver) (IsGuardOf catalogue driver calls pausing pauses' (record { moments = moments; cut = cut_of_guard end; closed = false })) clocking moments old.own new.own old.given new.given
      × (recording → new.whole → old.whole × (new.calls ≡ old.calls ++ calls))
  guarded_adds most (Worked end) is = (
    (made_by driver end (start (guards_of catalogue)) is.turns is.last).calls,
    (made_by driver end (start (guards_of catalogue)) is.turns is.last).moments,
    turned_adds end (cut_of end) is.turns is.last (inl refl) is.are is.fits is.own.0 is.leaves is.made is.waited,
    is.made.wrote,
  )
  guarded_adds most NoMemory is = ([], [], turned_adds Finished by_memory [] nothing (inr (refl, refl)) tt tt tt tt is.0 is.1, is.0.wrote)
