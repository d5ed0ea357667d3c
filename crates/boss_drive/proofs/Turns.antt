-- What one turn makes, whole or cut.
use Rattle.std.proofs.Common.{◌≡◌, ℕ, List, [], ◌∷◌, ◌++◌, Some, None, refl, sym, ap, ◌∙◌, append_assoc, append-nil}
use Rattle.boss_model.specs.declared.answer.Answer.{Answer}
use Rattle.boss_model.specs.declared.answer.Answer.TheVariants.{Nothing}
use Rattle.boss_model.specs.declared.command.Command.TheVariants.{Doubt, Next, Report}
use Rattle.boss_model.specs.declared.state.Actuator.{Actuator}
use Rattle.boss_model.specs.DeviceCall.{DeviceCall}
use Rattle.def_history.specs.declared.entry.Entry.{Entry}
use Rattle.def_history.specs.declared.entry.Entry.TheVariants.{Did, Broke}
use Rattle.boss_expiry.specs.declared.end.WorkEnd.{WorkEnd}
use Rattle.boss_expiry.specs.declared.end.WorkEnd.TheVariants.{Finished, Closed, ClockFault, Stopped, DiskFault}
use Rattle.boss_expiry.specs.Ends.{IsCut, mark}
use Rattle.boss_drive.specs.Driving.{Write, idle, doubted, served, nothing, at_next, at_doubt, at_reading, at_report, asked, call_of, Stand, IsTurn, IsCutTurn, DiskCause}
use Rattle.boss_drive.specs.Looks.{FitsLook, IsCutLook, IsLook, Looked, entries_of, quiet, doubted as has_doubted}

abbrev stand : List Entry → List ℕ → Type 0 → List DeviceCall → Stand
stand own given whole calls = record { own = own; given = given; whole = whole; calls = calls }

module _ (plant : List Actuator) (driver : ℕ) (clocking recording : Type 0) (own own' own'' : List Entry) (given given' given'' : List ℕ) (whole whole' : Type 0) (calls calls' : List DeviceCall) where
  pub cut_first : (clocking → given' ≡ given) →
      IsCutTurn plant driver clocking recording (stand own given whole calls) (stand own given' whole calls) ClockFault
  cut_first reading = record {
    cut = nothing;
    fits = tt;
    own = tt;
    gained = record {
      entries = sym (append-nil own);
      gave = λ tells. reading tells ∙ sym (append-nil given);
      wrote = λ tells is. (is, sym (append-nil calls));
    };
  }

  pub cut_next : (moment : ℕ) (seen : List Entry) (end : WorkEnd) → IsCut (Next driver) moment own own' seen end →
      (clocking → given' ≡ given ++ moment ∷ []) →
      IsCutTurn plant driver clocking recording (stand own given whole calls) (stand own' given' whole calls) end
  cut_next moment seen Finished is reading = absurd is
  cut_next moment seen Closed is reading = absurd is
  cut_next moment seen ClockFault is reading = absurd is
  cut_next moment seen Stopped is reading = record {
    cut = at_next moment;
    fits = tt;
    own = tt;
    gained = record { entries = is.0; gave = reading; wrote = λ tells whole_is. (whole_is, sym (append-nil calls)) };
  }
  cut_next moment seen DiskFault is reading = record {
    cut = at_next moment;
    fits = tt;
    own = tt;
    gained = record { entries = is.0; gave = reading; wrote = λ tells whole_is. (whole_is, sym (append-nil calls)) };
  }

  -- there was no want, and its devices looked
  module _ (moment : ℕ) (ask : own' ≡ own ++ Did 0 (Next driver) moment Nothing ∷ []) (reading : clocking → given' ≡ given ++ moment ∷ [])
      (same : recording → calls' ≡ calls) (still : recording → whole' → whole) where
    pub looked_turn : (rest : ℕ) → IsLook plant driver moment own' own'' →
        IsTurn plant driver clocking recording (stand own given whole calls) (stand own'' given' whole' calls') (Some rest)
    looked_turn rest is = by is.looked is.fits is.entries_are
      where
        by : (looked : Looked) → FitsLook plant driver looked → own'' ≡ own' ++ entries_of moment looked →
            IsTurn plant driver clocking recording (stand own given whole calls) (stand own'' given' whole' calls') (Some rest)
        by quiet fits entries = record {
          turn = idle moment;
          own = tt;
          wrote_is = refl;
          gained = record {
            entries = entries ∙ append-nil own' ∙ ask;
            gave = reading;
            wrote = λ tells whole_is. (still tells whole_is, same tells ∙ sym (append-nil calls));
          };
        }
        by (has_doubted point differs answer) fits entries = record {
          turn = doubted moment point differs answer;
          own = fits;
          wrote_is = refl;
          gained = record {
            entries = entries ∙ ap (λ es. es ++ Did 0 (Doubt point differs) moment answer ∷ []) ask
                ∙ append_assoc own (Did 0 (Next driver) moment Nothing ∷ []) (Did 0 (Doubt point differs) moment answer ∷ []);
            gave = reading;
            wrote = λ tells whole_is. (still tells whole_is, same tells ∙ sym (append-nil calls));
          };
        }

    pub cut_look : (end : WorkEnd) → IsCutLook plant driver moment own' own'' end →
        IsCutTurn plant driver clocking recording (stand own given whole calls) (stand own'' given' whole' calls') end
    cut_look end is = record {
      cut = at_doubt moment is.point is.differs;
      fits = is.disk;
      own = is.fits;
      gained = record {
        entries = is.entries_are ∙ ap (λ es. es ++ mark (Doubt is.point is.differs) moment end) ask
            ∙ append_assoc own (Did 0 (Next driver) moment Nothing ∷ []) (mark (Doubt is.point is.differs) moment end);
        gave = reading;
        wrote = λ tells whole_is. (still tells whole_is, same tells ∙ sym (append-nil calls));
      };
    }

  module _ (w : Write) (ask : own' ≡ own ++ asked driver w ∷ []) (first : clocking → given' ≡ given ++ w.moment ∷ [])
      (write : recording → whole' → whole × (calls' ≡ calls ++ call_of w ∷ [])) where
    pub cut_reading : (clocking → given'' ≡ given') →
        IsCutTurn plant driver clocking recording (stand own given whole calls) (stand own' given'' whole' calls') ClockFault
    cut_reading reading = record {
      cut = at_reading w;
      fits = refl;
      own = tt;
      gained = record { entries = ask; gave = λ tells. reading tells ∙ first tells; wrote = write };
    }

    pub cut_report : (told : ℕ) (seen : List Entry) (end : WorkEnd) → IsCut (Report w.point w.version w.ok) told own' own'' seen end →
        (clocking → given'' ≡ given' ++ told ∷ []) →
        IsCutTurn plant driver clocking recording (stand own given whole calls) (stand own'' given'' whole' calls') end
    cut_report told seen Finished is reading = absurd is
    cut_report told seen Closed is reading = absurd is
    cut_report told seen ClockFault is reading = absurd is
    cut_report told seen Stopped is reading = record {
      cut = at_report w told;
      fits = tt;
      own = tt;
      gained = record {
        entries = is.0 ∙ append-nil own' ∙ ask;
        gave = λ tells. reading tells ∙ ap (λ ms. ms ++ told ∷ []) (first tells) ∙ append_assoc given (w.moment ∷ []) (told ∷ []);
        wrote = write;
      };
    }
    cut_report told seen DiskFault is reading = record {
      cut = at_report w told;
      fits = tt;
      own = tt;
      gained = record {
        entries = is.0 ∙ ap (λ es. es ++ Broke 0 ((Report w.point w.version w.ok, told) ∷ []) [] ∷ []) ask
            ∙ append_assoc own (asked driver w ∷ []) (Broke 0 ((Report w.point w.version w.ok, told) ∷ []) [] ∷ []);
        gave = λ tells. reading tells ∙ ap (λ ms. ms ++ told ∷ []) (first tells) ∙ append_assoc given (w.moment ∷ []) (told ∷ []);
        wrote = write;
      };
    }

    pub served_turn : (told : ℕ) (answer : Answer) → own'' ≡ own' ++ Did 0 (Report w.point w.version w.ok) told answer ∷ [] →
        (clocking → given'' ≡ given' ++ told ∷ []) →
        IsTurn plant driver clocking recording (stand own given whole calls) (stand own'' given'' whole' calls') None
    served_turn told answer entry reading = record {
      turn = served w told answer;
      own = tt;
      wrote_is = refl;
      gained = record {
        entries = entry ∙ ap (λ es. es ++ Did 0 (Report w.point w.version w.ok) told answer ∷ []) ask
            ∙ append_assoc own (asked driver w ∷ []) (Did 0 (Report w.point w.version w.ok) told answer ∷ []);
        gave = λ tells. reading tells ∙ ap (λ ms. ms ++ told ∷ []) (first tells) ∙ append_assoc given (w.moment ∷ []) (told ∷ []);
        wrote = write;
      };
    }

pub disk_of_cut : (driver moment : ℕ) (own own' seen : List Entry) (end : WorkEnd) → IsCut (Next driver) moment own own' seen end → DiskCause seen end
disk_of_cut driver moment own own' seen Finished is = is
disk_of_cut driver moment own own' seen Closed is = is
disk_of_cut driver moment own own' seen ClockFault is = absurd is
disk_of_cut driver moment own own' seen Stopped is = is.1
disk_of_cut driver moment own own' seen DiskFault is = is.1
