-- What the worker of a driver did, whether it kept minimum times or not.
use Rattle.std.proofs.Common.{◌≡◌, ℕ, ◌+◌, ◌≤◌, Bool, true, false, List, [], ◌∷◌, ◌++◌, length, length-append, ap, sym, ◌∙◌, subst, arith}
use Rattle.boss_model.specs.Catalogue.{actuators, Catalogue}
use Rattle.boss_model.specs.declared.state.Actuator.{Actuator}
use Rattle.boss_model.specs.DeviceCall.{DeviceCall}
use Rattle.boss_model.specs.State.{State}
use Rattle.def_history.specs.declared.entry.Entry.{Entry}
use Rattle.def_history.specs.History.{deeds, is_broken}
use Rattle.def_lanes.specs.Lanes.{of_driver}
use Rattle.def_lanes.specs.Parts.{Added}
use Rattle.def_lanes.specs.Works.{not_cut, by_memory, Course}
use Rattle.def_lanes.proofs.Choices.{deeds-append}
use Rattle.boss_lock.specs.Places.{entries_at}
use Rattle.boss_shared.specs.Passes.{IsPassOf}
use Rattle.boss_expiry.specs.declared.end.WorkEnd.{WorkEnd}
use Rattle.boss_expiry.specs.Ends.{cut_of, EndCause}
use Rattle.boss_drive.specs.Driving.{Stand, Driven, made_by, left_by}
use Rattle.boss_drive.proofs.Laning.{driven-added}
use Rattle.def_guards.specs.declared.guard.Guard.{Guard}
use Rattle.def_guards.specs.Acts.{Watch}
use Rattle.def_guards.specs.Guards.{guards_of, is_guarded}
use Rattle.def_guards.specs.Turns.{Turn as GuardTurn, after_turn, after_turns}
use Rattle.boss_guard.specs.declared.end.GuardEnd.{GuardEnd}
use Rattle.boss_guard.specs.declared.end.GuardEnd.TheVariants as guard
use Rattle.boss_guard.specs.Guarding.{cut_of_guard, Guarded, GuardCause, GuardClock, Turned, start}
use Rattle.boss_guard.specs.Making.{doubts, made_by_acts, made_in_turns, left_by as left_by_guard}
use Rattle.boss_guard.proofs.LaneOfGuards.{guarded_adds}
use Rattle.boss_worker.specs.declared.trouble.Trouble.TheVariants.{Disk, Memory}
use Rattle.boss_worker.specs.Drove.{Drove, WasTold}
use Rattle.boss_worker.specs.Saying.{IsDriven}
use Rattle.boss_worker.specs.Troubles.{trouble_of_guard, trouble_of_work, ClockTrouble}
use Rattle.boss_worker.proofs.CauseLemmas.{broken-worked, clock-worked, cut-guarded, cut-worked}
use Rattle.boss_worker.proofs.EndedLemmas.{told-to-end, turns-long}

-- ---- what it added

module _ (catalogue : Catalogue) (opening : State) (seen : List Entry) (mine : List ℕ) (driver : ℕ) (clocking recording : Type 0) (old new : Stand) (pausing : Type 0) (pauses pauses' most : ℕ)
    (pass : IsPassOf (actuators catalogue) opening seen mine) (own : new.own ≡ entries_at seen mine) (fresh : pausing → pauses ≡ 0) where
  pub drove-plain : (end : WorkEnd) → is_guarded catalogue driver ≡ false → Driven (actuators catalogue) driver clocking recording old new pausing pauses pauses' most end →
      Drove catalogue driver clocking recording old new pausing pauses' (trouble_of_work end)
  drove-plain end is driven =
      let calls : List DeviceCall = (made_by driver driven.turns (left_by driver end driven.last)).calls in
      let course : Course = record { moments = (made_by driver driven.turns (left_by driver end driven.last)).moments; cut = cut_of end; closed = false } in record {
        calls = calls;
        course = course;
        cut_is = cut-worked end;
        added = subst (λ kept. Added (actuators catalogue) (of_driver driver) (IsDriven kept catalogue driver calls pausing pauses' course) clocking course.moments old.own new.own old.given new.given) (sym is)
            (driven-added (actuators catalogue) opening seen mine driver clocking recording pausing old new pauses pauses' most end pass.legal own driven fresh);
        wrote = driven.made.wrote;
      }

  pub drove-guarded : (end : GuardEnd) → is_guarded catalogue driver ≡ true → Guarded (actuators catalogue) driver (guards_of catalogue) clocking recording old new pausing pauses pauses' most end →
      Drove catalogue driver clocking recording old new pausing pauses' (trouble_of_guard end)
  drove-guarded end is guarded =
      let adds = guarded_adds catalogue opening seen mine driver clocking recording pausing old new pauses pauses' pass own fresh most end guarded in record {
        calls = adds.0;
        course = record { moments = adds.1; cut = cut_of_guard end; closed = false };
        cut_is = cut-guarded end;
        added = subst (λ kept. Added (actuators catalogue) (of_driver driver) (IsDriven kept catalogue driver adds.0 pausing pauses' (record { moments = adds.1; cut = cut_of_guard end; closed = false })) clocking adds.1 old.own new.own old.given new.given) (sym is) adds.2;
        wrote = adds.3;
      }

-- ---- causes

pub clock-guarded : (end : GuardEnd) (before now : ℕ) → GuardClock before now end → ClockTrouble before now (trouble_of_guard end)
clock-guarded (guard.Worked end) before now cause = clock-worked end before now cause
clock-guarded guard.NoMemory before now cause = cause

pub broken-guarded : (end : GuardEnd) (seen : List Entry) (pausing : Type 0) (closed : Bool) (before now : ℕ) → GuardCause seen pausing closed before now end → trouble_of_guard end ≡ Disk → is_broken seen ≡ true
broken-guarded (guard.Worked end) seen pausing closed before now cause is = broken-worked end seen pausing closed before now cause is
broken-guarded guard.NoMemory seen pausing closed before now cause is = absurd (let no : Memory ≡ Disk = is in cc)

-- ---- it was told to end

-- each guarded turn has an entry
guard-turns-long : (driver : ℕ) (turns : List GuardTurn) (watch : Watch) → length turns ≤ length (deeds (made_in_turns driver watch turns).entries)
guard-turns-long driver [] watch = omega arith
guard-turns-long driver (turn ∷ turns) watch =
    let acts : List Entry = (made_by_acts turn.acts).entries ++ doubts (after_turn turn watch).now turn.doubt in
    let rest : List Entry = (made_in_turns driver (after_turn turn watch) turns).entries in
    let more : length turns ≤ length (deeds rest) = guard-turns-long driver turns (after_turn turn watch) in
    let all : length (deeds (acts ++ rest)) ≡ length (deeds acts) + length (deeds rest) = ap length (deeds-append acts rest) ∙ length-append (deeds acts) (deeds rest) in
    omega (arith, more, all)

-- all that was done is new
all-new : (own own' more : List Entry) → own' ≡ own ++ more → deeds own ≡ [] → deeds own' ≡ deeds more
all-new own own' more grew empty = ap deeds grew ∙ deeds-append own more ∙ ap (λ front. front ++ deeds more) empty

module _ (plant : List Actuator) (driver : ℕ) (clocking recording : Type 0) (old new : Stand) (pausing : Type 0) (pauses pauses' most : ℕ) (seen : List Entry) (closed : Bool) (before now : ℕ) where
  pub told-plain : (end : WorkEnd) → Driven plant driver clocking recording old new pausing pauses pauses' most end → EndCause seen pausing closed before now end →
      WasTold old.own new.own pausing closed most (trouble_of_work end)
  told-plain end driven cause empty enough uncut told few =
      let made = made_by driver driven.turns (left_by driver end driven.last) in
      let all : deeds new.own ≡ deeds made.entries = all-new old.own new.own made.entries driven.made.entries empty in
      let long : length driven.turns ≤ length (deeds made.entries) = turns-long driver driven.turns (left_by driver end driven.last) in
      told-to-end end (length driven.turns) most (length (deeds new.own)) seen pausing closed before now enough driven.taken cause
      (subst (λ done. length driven.turns ≤ length done) (sym all) long) uncut told few

  told-turned : (guards : List Guard) (end : WorkEnd) → Turned plant driver guards clocking recording old new pausing pauses pauses' most end → EndCause seen pausing closed before now end →
      WasTold old.own new.own pausing closed most (trouble_of_work end)
  told-turned guards end turned cause empty enough uncut told few =
      let whole : List Entry = (made_in_turns driver (start guards) turned.turns).entries in
      let last : List Entry = (left_by_guard driver end (after_turns turned.turns (start guards)) turned.last).entries in
      let all : deeds new.own ≡ deeds (whole ++ last) = all-new old.own new.own (whole ++ last) turned.made.entries empty in
      let parts : length (deeds (whole ++ last)) ≡ length (deeds whole) + length (deeds last) = ap length (deeds-append whole last) ∙ length-append (deeds whole) (deeds last) in
      let some : length turned.turns ≤ length (deeds whole) = guard-turns-long driver turned.turns (start guards) in
      let long : length turned.turns ≤ length (deeds (whole ++ last)) = omega (arith, some, parts) in
      told-to-end end (length turned.turns) most (length (deeds new.own)) seen pausing closed before now enough turned.taken cause
      (subst (λ done. length turned.turns ≤ length done) (sym all) long) uncut told few

  pub told-guarded : (guards : List Guard) (end : GuardEnd) → Guarded plant driver guards clocking recording old new pausing pauses pauses' most end → GuardCause seen pausing closed before now end →
      WasTold old.own new.own pausing closed most (trouble_of_guard end)
  told-guarded guards (guard.Worked end) guarded cause empty enough uncut told few = told-turned guards end guarded cause empty enough uncut told few
  told-guarded guards guard.NoMemory guarded cause empty enough uncut told few = absurd (let no : by_memory ≡ not_cut = uncut in cc)
