-- The calls of a guarded device are the writes to its point.
use Rattle.std.proofs.Common.{◌≡◌, ℕ, zero, suc, ◌<◌, ◌==◌, Bool, true, false, cond, map, List, [], ◌∷◌, ◌++◌, length, Some, None, slice_get, nat_abs, refl, sym, ap, ◌∙◌, subst, arith}
use Rattle.std.proofs.lemmas.List.{map-append}
use Rattle.def_history.specs.declared.entry.Entry.{Entry}
use Rattle.boss_model.specs.Catalogue.{Catalogue, Point}
use Rattle.boss_model.specs.DeviceCall.{DeviceCall}
use Rattle.def_guards.specs.declared.guard.Guard.{Guard}
use Rattle.def_guards.specs.Guards.{guard_of, guards_of, minimum, times_for}
use Rattle.def_guards.specs.Acts.{Watch, Decision, Reason, Act, wrote, kept, guard_at}
use Rattle.def_guards.specs.Turns.{Turn, after_turn, after_turns, at_clock, at_report, TryCut, at_read, at_write, Cut, nothing, at_next, in_turn, at_doubt}
use Rattle.def_guards.specs.Spacing.{Call, KeepsTimes, call_to, is_shown, calls_by, calls_on, calls_in, calls_at, calls_cut}
use Rattle.def_guards.proofs.Spaced.{keeps_times}
use Rattle.boss_expiry.specs.declared.end.WorkEnd.{WorkEnd}
use Rattle.def_lanes.specs.Works.{Course}
use Rattle.boss_guard.specs.GuardDrives.{IsGuardOf, values_at}
use Rattle.boss_guard.specs.Guarding.{start}
use Rattle.boss_guard.specs.Making.{made_by_act, made_by_acts, made_before, made_in, made_in_turns, made_by, left_by, left_by_try}

module _ (point : ℕ) where
  values_both : (first next : List DeviceCall) → values_at point (first ++ next) ≡ values_at point first ++ values_at point next
  values_both [] next = refl
  values_both (call ∷ first) next = elim (call.point == point) as (λ b. cond b (call.value ∷ values_at point (first ++ next)) (values_at point (first ++ next))
      ≡ cond b (call.value ∷ values_at point first) (values_at point first) ++ values_at point next) [
        | true ↦ ap (λ values. call.value ∷ values) (values_both first next)
        | false ↦ values_both first next
      ]

  -- two lists of writes, and the calls that they are
  both_are : (writes more : List Call) (calls next : List DeviceCall) → map (λ write. write.value) writes ≡ values_at point calls → map (λ write. write.value) more ≡ values_at point next →
      map (λ write. write.value) (writes ++ more) ≡ values_at point (calls ++ next)
  both_are writes more calls next first then_is = map-append (λ (write : Call). write.value) writes more ∙ ap (λ values. values ++ map (λ write. write.value) more) first
      ∙ ap (λ values. values_at point calls ++ values) then_is ∙ sym (values_both calls next)

  write_is : (d : Decision) (reason : Reason) (ok : Bool) → map (λ write. write.value) (call_to point d reason) ≡ values_at point (record { point = d.point; value = d.value; ok = ok } ∷ [])
  write_is d reason ok =
      let write : Call = record { value = d.value; now = d.now; shown = is_shown reason } in
      elim (d.point == point) as (λ b. map (λ (call : Call). call.value) (cond b (write ∷ []) []) ≡ cond b (d.value ∷ []) []) [
        | true ↦ refl
        | false ↦ refl
      ]

  act_is : (act : Act) → map (λ write. write.value) (calls_by point act) ≡ values_at point (made_by_act act).calls
  act_is (wrote d reason ok told answer) = write_is d reason ok
  act_is (kept d answer) = refl

  acts_are : (acts : List Act) → map (λ write. write.value) (calls_on point acts) ≡ values_at point (made_by_acts acts).calls
  acts_are [] = refl
  acts_are (act ∷ acts) = both_are (calls_by point act) (calls_on point acts) (made_by_act act).calls (made_by_acts acts).calls (act_is act) (acts_are acts)

  turns_are : (driver : ℕ) (turns : List Turn) (watch : Watch) → map (λ write. write.value) (calls_in point turns) ≡ values_at point (made_in_turns driver watch turns).calls
  turns_are driver [] watch = refl
  turns_are driver (turn ∷ turns) watch = both_are (calls_on point turn.acts) (calls_in point turns) (made_in driver watch turn).calls (made_in_turns driver (after_turn turn watch) turns).calls
      (acts_are turn.acts) (turns_are driver turns (after_turn turn watch))

  try_is : (end : WorkEnd) (d : Decision) (cut : TryCut) → map (λ write. write.value) (calls_at point d cut) ≡ values_at point (left_by_try end d cut).calls
  try_is end d at_read = refl
  try_is end d (at_write reason (at_clock ok)) = write_is d reason ok
  try_is end d (at_write reason (at_report ok told)) = write_is d reason ok

  cut_is : (driver : ℕ) (end : WorkEnd) (watch : Watch) (last : Cut) → map (λ write. write.value) (calls_cut point last) ≡ values_at point (left_by driver end watch last).calls
  cut_is driver end watch nothing = refl
  cut_is driver end watch (at_next reading) = refl
  cut_is driver end watch (in_turn turn d cut) = both_are (calls_on point turn.acts) (calls_at point d cut) (made_before driver watch turn).calls (left_by_try end d cut).calls
      (acts_are turn.acts) (try_is end d cut)
  cut_is driver end watch (at_doubt turn other differs) = acts_are turn.acts

  all_are : (driver : ℕ) (end : WorkEnd) (watch : Watch) (turns : List Turn) (last : Cut) →
      map (λ write. write.value) (calls_in point turns ++ calls_cut point last) ≡ values_at point (made_by driver end watch turns last).calls
  all_are driver end watch turns last = both_are (calls_in point turns) (calls_cut point last) (made_in_turns driver watch turns).calls (left_by driver end (after_turns turns watch) last).calls
      (turns_are driver turns watch) (cut_is driver end (after_turns turns watch) last)

-- ---- the guard of a point

guard_is : (points : List Point) (point : ℕ) (told : Point) → slice_get points point ≡ Some told →
    (point < length (map guard_of points)) × (guard_at (map guard_of points) point ≡ guard_of told)
guard_is [] point told is = absurd cc
guard_is (first ∷ points) zero told is = let same : first ≡ told = cc in (omega arith, ap guard_of same)
guard_is (first ∷ points) (suc point) told is = let more = guard_is points point told is in (omega (arith, more.0), more.1)

pub device_keeps : (catalogue : Catalogue) (driver : ℕ) (calls : List DeviceCall) (pausing : Type 0) (pauses : ℕ) (course : Course) (entries : List Entry) (point : ℕ) (told : Point) →
    (made : IsGuardOf catalogue driver calls pausing pauses course entries) → slice_get catalogue.points point ≡ Some told →
    (map (λ write. write.value) (calls_in point made.turns ++ calls_cut point made.last) ≡ values_at point calls)
    × KeepsTimes (times_for (nat_abs told.min_on) (nat_abs told.min_off)) (calls_in point made.turns ++ calls_cut point made.last)
device_keeps catalogue driver calls pausing pauses course entries point told is found =
    let at = guard_is catalogue.points point told found in
    let fresh : (guard_at (guards_of catalogue) point).last ≡ None = ap (λ (guard : Guard). guard.last) at.1 in (
      all_are point driver is.end (start (guards_of catalogue)) is.turns is.last ∙ ap (values_at point) (sym is.calls_are),
      subst (λ guard. KeepsTimes (minimum guard) (calls_in point is.turns ++ calls_cut point is.last)) at.1
          (keeps_times point (start (guards_of catalogue)) is.turns is.last at.0 fresh is.are is.fits),
    )
