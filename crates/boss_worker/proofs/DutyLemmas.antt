-- What a worker left that let time pass, or drove devices.
use Rattle.std.proofs.Common.{◌≡◌, ℕ, suc, ◌+◌, ◌<◌, ◌≤◌, Bool, true, false, List, [], ◌∷◌, ◌++◌, length, refl, ap, sym, ◌∙◌, subst, arith, Option}
use Rattle.std.specs.List.{AllByRecursion}
use Rattle.boss_model.specs.Catalogue.{actuators, Catalogue}
use Rattle.boss_model.specs.declared.command.Command.TheVariants.{Tick}
use Rattle.boss_model.specs.declared.state.Actuator.{Actuator}
use Rattle.boss_model.specs.DeviceCall.{DeviceCall}
use Rattle.boss_model.specs.Limits.{last_number}
use Rattle.def_history.specs.declared.entry.Entry.{Entry}
use Rattle.def_history.specs.History.{deeds, is_broken}
use Rattle.def_lanes.specs.Lanes.{of_driver, of_time, done_in}
use Rattle.def_lanes.specs.Waits.{IsNoteOf}
use Rattle.boss_outside_server.specs.declared.waited.Waited.{Waited}
use Rattle.def_lanes.specs.Works.{Course, not_cut, Work, visit, beat, drive, owner, AreOf, calls_in}
use Rattle.def_lanes.proofs.DeviceLemmas.{calls-one}
use Rattle.def_lanes.proofs.Lists.{each-map}
use Rattle.boss_shared.specs.Gates.{Gate}
use Rattle.boss_expiry.specs.declared.end.WorkEnd.{WorkEnd}
use Rattle.boss_expiry.specs.Beats.{IsBeatOf}
use Rattle.boss_expiry.specs.Ends.{cut_of, mark, ClockCause, EndCause}
use Rattle.boss_expiry.specs.Ticking.{ticks, Expired}
use Rattle.boss_expiry.proofs.Beating.{expired-added}
use Rattle.boss_drive.specs.Driving.{Stand}
use Rattle.def_guards.specs.Guards.{is_guarded}
use Rattle.boss_keys.specs.declared.entry.Entry.{Entry as KeyEntry}
use Rattle.boss_worker.specs.declared.flags.Flags.{Flags}
use Rattle.boss_worker.specs.declared.trouble.Trouble.{Trouble}
use Rattle.boss_worker.specs.declared.trouble.Trouble.TheVariants.{Disk}
use Rattle.boss_worker.specs.Drove.{Drove, WasTold}
use Rattle.boss_worker.specs.Saying.{terms_of, IsDriven}
use Rattle.boss_worker.specs.Troubles.{no_flags, flags_after, trouble_of_work, ClockTrouble}
use Rattle.boss_worker.specs.Visits.{IsMarked, Left}
use Rattle.boss_worker.proofs.CauseLemmas.{broken-worked, clock-worked, cut-worked}
use Rattle.boss_worker.proofs.FlagLemmas.{marked-after}
use Rattle.boss_worker.proofs.EndedLemmas.{lane-whole, ticks-long, told-to-end}
use Rattle.boss_worker.proofs.LeftLemmas.{left-one}

-- of a worker for connections nothing is told in its works
visit-noted : (workers number : ℕ) (note : Waited) → number < workers → (work : Work) → (number ≤ owner workers work) × (owner workers work < suc number) → IsNoteOf note work
visit-noted workers number note low (visit served course) within = tt
visit-noted workers number note low (beat waited course) within = absurd (omega (arith, within.1))
visit-noted workers number note low (drive driver calls waited course) within = absurd (omega (arith, within.1))

pub visits-noted : (workers number : ℕ) (note : Waited) → number < workers → (works : List Work) → AreOf workers number (suc number) works → AllByRecursion (IsNoteOf note) works
visits-noted workers number note low works of_them =
    each-map (λ work. (number ≤ owner workers work) × (owner workers work < suc number)) (IsNoteOf note) (visit-noted workers number note low) works of_them

pub calls-driven : (driver : ℕ) (waited : Waited) (course : Course) (was old new more : List DeviceCall) → was ≡ old → new ≡ old ++ more → new ≡ was ++ calls_in driver (drive driver more waited course ∷ [])
calls-driven driver waited course was old new more same grew =
    grew ∙ ap (λ front. front ++ more) (sym same) ∙ ap (λ behind. was ++ behind) (sym (calls-one driver more waited course [] [] (tt, tt)))

module _ (catalogue : Catalogue) (gates : List Gate) (keys : Option (List KeyEntry)) (workers number : ℕ) (heeds tells hosting clocking pausing : Type 0) (own own' seen : List Entry) (given given' : List ℕ) (misses misses' pauses most before now : ℕ)
    (waited : Waited) (end : WorkEnd) (flags : Flags) (empty : own ≡ []) (no_moment : clocking → given ≡ []) (no_pause : pausing → pauses ≡ 0) (no_miss : misses ≡ 0) (unmarked : flags ≡ no_flags)
    (clock : ClockCause misses misses' end) (cause : EndCause seen pausing waited.closed before now end) where
  pub left-time : number ≡ workers → Expired own own' clocking given given' pausing pauses waited.pauses most end →
      (course : Course) × (course.cut ≡ cut_of end) × Left true (terms_of catalogue gates keys workers heeds tells hosting clocking pausing) number 0 (beat waited course ∷ []) own' seen [] [] [] given' 0 0 misses' (flags_after (trouble_of_work end) flags)
  left-time owned expired =
      let adds = expired-added (actuators catalogue) clocking pausing own own' given given' pauses waited.pauses most end expired no_pause in
      let course : Course = record { moments = adds.0; cut = cut_of end; closed = false } in (
        course,
        refl,
        left-one (terms_of catalogue gates keys workers heeds tells hosting clocking pausing) number (beat waited course) own own' seen given given' misses misses' flags (trouble_of_work end)
            adds.1 (ap deeds empty) no_moment no_miss unmarked refl (cut-worked end) (subst (IsMarked (flags_after (trouble_of_work end) flags)) (sym (cut-worked end)) (marked-after (trouble_of_work end) flags)) owned
            (clock-worked end misses misses' clock) (λ is. broken-worked end seen pausing waited.closed before now cause is),
      )

module _ (catalogue : Catalogue) (gates : List Gate) (keys : Option (List KeyEntry)) (workers number : ℕ) (heeds tells hosting clocking recording pausing : Type 0) (old new : Stand) (seen : List Entry) (misses misses' : ℕ)
    (waited : Waited) (trouble : Trouble) (flags : Flags) (empty : old.own ≡ []) (no_moment : clocking → old.given ≡ []) (no_miss : misses ≡ 0) (unmarked : flags ≡ no_flags)
    (clock : ClockTrouble misses misses' trouble) (broken : trouble ≡ Disk → is_broken seen ≡ true) (driver : ℕ) (drove : Drove catalogue driver clocking recording old new pausing waited.pauses trouble) where
  pub left-driven : number ≡ workers + 1 + driver →
      Left true (terms_of catalogue gates keys workers heeds tells hosting clocking pausing) number 0 (drive driver drove.calls waited drove.course ∷ []) new.own seen [] [] [] new.given 0 0 misses' (flags_after trouble flags)
  left-driven owned = left-one (terms_of catalogue gates keys workers heeds tells hosting clocking pausing) number (drive driver drove.calls waited drove.course) old.own new.own seen old.given new.given misses misses' flags trouble
      drove.added (ap deeds empty) no_moment no_miss unmarked refl drove.cut_is (subst (IsMarked (flags_after trouble flags)) (sym drove.cut_is) (marked-after trouble flags)) owned clock broken

  pub driven-ended : (most : ℕ) → last_number ≤ most → WasTold old.own new.own pausing waited.closed most trouble → pausing →
      length (done_in (actuators catalogue) (of_driver driver) new.own) < last_number → drove.course.cut ≡ not_cut → waited.closed ≡ true
  driven-ended most enough was_told told few uncut =
      let in_lane = lane-whole (actuators catalogue) (of_driver driver) (IsDriven (is_guarded catalogue driver) catalogue driver drove.calls pausing waited.pauses drove.course) clocking drove.course.moments old.own new.own old.given new.given
      drove.added (ap deeds empty) in
      was_told (ap deeds empty) enough (sym drove.cut_is ∙ uncut) told (let same = ap length in_lane in omega (arith, same))

-- a worker of which nothing went wrong was told to end
module _ (plant : List Actuator) (clocking pausing : Type 0) (own own' seen : List Entry) (given given' : List ℕ) (pauses pauses' most before now : ℕ) (closed : Bool) (end : WorkEnd)
    (empty : own ≡ []) (no_pause : pausing → pauses ≡ 0) (cause : EndCause seen pausing closed before now end) (enough : last_number ≤ most) (told : pausing) where
  pub time-ended : Expired own own' clocking given given' pausing pauses pauses' most end → length (done_in plant of_time own') < last_number → cut_of end ≡ not_cut → closed ≡ true
  time-ended expired few uncut =
      let adds = expired-added plant clocking pausing own own' given given' pauses pauses' most end expired no_pause in
      let whole = lane-whole plant of_time (IsBeatOf pausing pauses' (record { moments = adds.0; cut = cut_of end; closed = false })) clocking adds.0 own own' given given' adds.1 (ap deeds empty) in
      let all : own' ≡ ticks expired.turns ++ mark Tick expired.last end = expired.entries ∙ ap (λ front. front ++ (ticks expired.turns ++ mark Tick expired.last end)) empty in
      let long : length expired.turns ≤ length (deeds own') = rw all (ticks-long expired.turns (mark Tick expired.last end)) in
      told-to-end end (length expired.turns) most (length (deeds own')) seen pausing closed before now enough expired.taken cause long (sym (cut-worked end) ∙ uncut) told (let same = ap length whole in omega (arith, same))
