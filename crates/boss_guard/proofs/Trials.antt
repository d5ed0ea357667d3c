-- What becomes of one want.
use Rattle.std.proofs.Common.{◌≡◌, ℕ, true, false, List, [], ◌∷◌, ◌++◌, set, refl, sym, ap, ◌∙◌, append-nil}
use Rattle.boss_model.specs.declared.command.Command.TheVariants.{Read}
use Rattle.boss_model.specs.DeviceCall.{DeviceCall}
use Rattle.def_history.specs.declared.entry.Entry.{Entry}
use Rattle.def_history.specs.declared.entry.Entry.TheVariants.{Did}
use Rattle.def_guards.specs.declared.guard.Guard.{Guard}
use Rattle.def_guards.specs.Guards.{holding, written}
use Rattle.def_guards.specs.declared.guard.Due.{Due}
use Rattle.def_guards.specs.Acts.{Watch, Decision, wrote, kept, decided, guard_at, held_by}
use Rattle.def_guards.specs.Turns.{at_read, at_write}
use Rattle.boss_expiry.specs.declared.end.WorkEnd.{WorkEnd}
use Rattle.boss_expiry.specs.declared.end.WorkEnd.TheVariants.{Finished, Closed, ClockFault, Stopped, DiskFault}
use Rattle.boss_drive.specs.Driving.{Stand, Gained, DiskCause}
use Rattle.boss_drive.proofs.Gains.{gained_both_of}
use Rattle.boss_guard.specs.Making.{reads, made_by_reading, made_by_write, made_by_act, left_by_write, left_by_try}
use Rattle.boss_guard.specs.Trying.{Judged, JudgedCut, Wrote, WroteCut, TriedOne, TriedCut}

abbrev pub stand : List Entry → List ℕ → Type 0 → List DeviceCall → Stand
stand own given whole calls = record { own = own; given = given; whole = whole; calls = calls }

abbrev pub watch : ℕ → List Guard → Watch
watch now guards = record { now = now; guards = guards }

-- a point was read, and nothing else was done
gained_reading : (clocking recording : Type 0) (own own' more : List Entry) (given : List ℕ) (whole : Type 0) (calls : List DeviceCall) → own' ≡ own ++ more →
    Gained clocking recording (stand own given whole calls) (stand own' given whole calls) (made_by_reading more)
gained_reading clocking recording own own' more given whole calls is = record {
  entries = is;
  gave = λ tells. sym (append-nil given);
  wrote = λ tells whole_is. (whole_is, sym (append-nil calls));
}

module _ (clocking recording : Type 0) (own own' : List Entry) (given : List ℕ) (whole : Type 0) (calls : List DeviceCall) (now : ℕ) (guards : List Guard) (want : Due) where
  pub tried_kept : Judged (guard_at guards want.point) (decided want now) own own' false → (guards' : List Guard) →
      guards' ≡ set guards want.point (holding (held_by (decided want now)) (guard_at guards want.point)) →
      TriedOne clocking recording (stand own given whole calls) (stand own' given whole calls) (watch now guards) want (watch now guards') false
  tried_kept judged guards' is = record {
    act = kept (decided want now) judged.0;
    is = (refl, judged.1, judged.2);
    after_is = ap (watch now) is;
    written_is = refl;
    gained = gained_reading clocking recording own own' (Did 0 (Read want.point) now judged.0 ∷ []) given whole calls judged.3;
  }

  pub tried_written : Judged (guard_at guards want.point) (decided want now) own own' true → (new : Stand) (later : ℕ) (guards' : List Guard) →
      Wrote clocking recording (stand own' given whole calls) new (decided want now) later →
      guards' ≡ set guards want.point (written want.value now (guard_at guards want.point)) →
      TriedOne clocking recording (stand own given whole calls) new (watch now guards) want (watch later guards') true
  tried_written judged new later guards' is guards_are =
      let d : Decision = decided want now in record {
        act = wrote d judged.0 is.ok is.told is.answer;
        is = (refl, judged.1);
        after_is = ap (λ gs. watch later gs) guards_are ∙ ap (λ n. watch n (set guards want.point (written want.value now (guard_at guards want.point)))) is.later_is;
        written_is = refl;
        gained = gained_both_of clocking recording (stand own given whole calls) (stand own' given whole calls) new
            (made_by_reading (reads d judged.0)) (made_by_write d is.ok is.told is.answer) (made_by_act (wrote d judged.0 is.ok is.told is.answer))
            (gained_reading clocking recording own own' (reads d judged.0) given whole calls judged.2) is.gained refl;
      }

  pub tried_cut_write : Judged (guard_at guards want.point) (decided want now) own own' true → (new : Stand) (end : WorkEnd) →
      WroteCut clocking recording (stand own' given whole calls) new (decided want now) end →
      TriedCut clocking recording (stand own given whole calls) new (watch now guards) want end
  tried_cut_write judged new end is =
      let d : Decision = decided want now in record {
        cut = at_write judged.0 is.cut;
        fits = judged.1;
        leaves = is.leaves;
        gained = gained_both_of clocking recording (stand own given whole calls) (stand own' given whole calls) new
            (made_by_reading (reads d judged.0)) (left_by_write end d is.cut) (left_by_try end d (at_write judged.0 is.cut))
            (gained_reading clocking recording own own' (reads d judged.0) given whole calls judged.2) is.gained refl;
      }

  pub tried_cut_read : (seen : List Entry) (end : WorkEnd) → JudgedCut (guard_at guards want.point) (decided want now) own own' seen end →
      TriedCut clocking recording (stand own given whole calls) (stand own' given whole calls) (watch now guards) want end
  tried_cut_read seen Finished is = absurd is.1
  tried_cut_read seen Closed is = absurd is.1
  tried_cut_read seen ClockFault is = absurd is.1
  tried_cut_read seen Stopped is = record {
    cut = at_read;
    fits = is.0;
    leaves = tt;
    gained = gained_reading clocking recording own own' [] given whole calls is.1.0;
  }
  tried_cut_read seen DiskFault is = record {
    cut = at_read;
    fits = is.0;
    leaves = tt;
    gained = gained_reading clocking recording own own' (left_by_try DiskFault (decided want now) at_read).entries given whole calls is.1.0;
  }

pub disk_of_judged : (guard : Guard) (d : Decision) (own own' seen : List Entry) (end : WorkEnd) → JudgedCut guard d own own' seen end → DiskCause seen end
disk_of_judged guard d own own' seen Finished is = is.1
disk_of_judged guard d own own' seen Closed is = is.1
disk_of_judged guard d own own' seen ClockFault is = absurd is.1
disk_of_judged guard d own own' seen Stopped is = is.1.1
disk_of_judged guard d own own' seen DiskFault is = is.1.1
