-- What reading a point shows, and what a write makes that was cut.
use Rattle.std.proofs.Common.{◌≡◌, ℕ, max, Bool, true, false, List, [], ◌∷◌, ◌++◌, refl, sym, ◌∙◌, append-nil}
use Rattle.boss_model.specs.declared.answer.Answer.{Answer}
use Rattle.boss_model.specs.declared.command.Command.TheVariants.{Read, Report}
use Rattle.boss_model.specs.DeviceCall.{DeviceCall}
use Rattle.def_history.specs.declared.entry.Entry.{Entry}
use Rattle.def_history.specs.declared.entry.Entry.TheVariants.{Did}
use Rattle.def_guards.specs.declared.guard.Guard.{Guard}
use Rattle.def_guards.specs.Guards.{is_free, shown_by}
use Rattle.def_guards.specs.Acts.{Decision, shown}
use Rattle.def_guards.specs.Turns.{at_clock, at_report}
use Rattle.boss_expiry.specs.declared.end.WorkEnd.{WorkEnd}
use Rattle.boss_expiry.specs.declared.end.WorkEnd.TheVariants.{Finished, Closed, ClockFault, Stopped, DiskFault}
use Rattle.boss_expiry.specs.Ends.{IsCut}
use Rattle.boss_guard.specs.Trying.{Judged, WroteCut}
use Rattle.boss_guard.proofs.Trials.{stand}

pub judged_by : (guard : Guard) (d : Decision) (own own' : List Entry) (answer : Answer) (found : Bool) → is_free guard d.value d.now ≡ false →
    own' ≡ own ++ Did 0 (Read d.point) d.now answer ∷ [] → found ≡ shown_by answer d.value → Judged guard d own own' found
judged_by guard d own own' answer true held entries is = (shown answer, (held, sym is), entries)
judged_by guard d own own' answer false held entries is = (answer, held, sym is, entries)

module _ (clocking recording : Type 0) (own own' : List Entry) (given given' : List ℕ) (whole whole' : Type 0) (calls calls' : List DeviceCall) (d : Decision) (ok : Bool)
    (write : recording → whole' → whole × (calls' ≡ calls ++ record { point = d.point; value = d.value; ok = ok } ∷ [])) where
  pub cut_clock : (clocking → given' ≡ given) → WroteCut clocking recording (stand own given whole calls) (stand own given' whole' calls') d ClockFault
  cut_clock reading = record {
    cut = at_clock ok;
    leaves = refl;
    gained = record { entries = sym (append-nil own); gave = λ tells. reading tells ∙ sym (append-nil given); wrote = write };
  }

  pub cut_report : (told : ℕ) (seen : List Entry) (end : WorkEnd) → IsCut (Report d.point d.version ok) (max d.now told) own own' seen end →
      (clocking → given' ≡ given ++ told ∷ []) → WroteCut clocking recording (stand own given whole calls) (stand own' given' whole' calls') d end
  cut_report told seen Finished is reading = absurd is
  cut_report told seen Closed is reading = absurd is
  cut_report told seen ClockFault is reading = absurd is
  cut_report told seen Stopped is reading = record { cut = at_report ok told; leaves = tt; gained = record { entries = is.0; gave = reading; wrote = write } }
  cut_report told seen DiskFault is reading = record { cut = at_report ok told; leaves = tt; gained = record { entries = is.0; gave = reading; wrote = write } }
