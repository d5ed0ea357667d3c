-- What one turn makes, whole or cut.
use Rattle.std.proofs.Common.{◌≡◌, ℕ, max, Bool, false, List, [], ◌∷◌, ◌++◌, Option, Some, None, is_none, refl, sym, ap, ◌∙◌, subst, append_assoc, append-nil}
use Rattle.boss_model.specs.declared.command.Command.TheVariants.{Doubt, Next}
use Rattle.boss_model.specs.declared.state.Actuator.{Actuator}
use Rattle.boss_model.specs.DeviceCall.{DeviceCall}
use Rattle.def_history.specs.declared.entry.Entry.{Entry}
use Rattle.def_history.specs.declared.entry.Entry.TheVariants.{Did}
use Rattle.def_guards.specs.declared.guard.Due.{Due}
use Rattle.def_guards.specs.Acts.{Watch, after_acts, after_reading, decided, due_of}
use Rattle.def_guards.specs.Turns.{Turn, Doubt as Doubted, after_turn, nothing, at_next, in_turn, at_doubt}
use Rattle.boss_expiry.specs.declared.end.WorkEnd.{WorkEnd}
use Rattle.boss_expiry.specs.declared.end.WorkEnd.TheVariants.{Finished, Closed, ClockFault, Stopped, DiskFault}
use Rattle.boss_expiry.specs.Ends.{IsCut, mark}
use Rattle.boss_drive.specs.Driving.{Made, Stand, Gained, both}
use Rattle.boss_drive.specs.Looks.{FitsLook, IsCutLook, IsLook, Looked, doubted, entries_of, quiet}
use Rattle.boss_drive.proofs.Gains.{both_assoc, gained_both_of}
use Rattle.boss_guard.specs.Making.{answer_for, asked, doubts, made_before, made_by_acts, left_by, left_by_try, with_more}
use Rattle.boss_guard.specs.Trying.{Swept, SweptCut, TookTurn, CutTurn}
use Rattle.boss_guard.proofs.Trials.{stand, watch}

-- entries more, without a reading of the clock or a call
gained_more : (clocking recording : Type 0) (old new : Stand) (own' : List Entry) (whole' : Type 0) (calls' : List DeviceCall) (made : Made) (more : List Entry) →
    Gained clocking recording old new made → own' ≡ new.own ++ more → (recording → calls' ≡ new.calls) → (recording → whole' → new.whole) →
    Gained clocking recording old (stand own' new.given whole' calls') (with_more made more)
gained_more clocking recording old new own' whole' calls' made more gained entries same still = record {
  entries = entries ∙ ap (λ es. es ++ more) gained.entries ∙ append_assoc old.own made.entries more;
  gave = gained.gave;
  wrote = λ tells whole_is. let was = gained.wrote tells (still tells whole_is) in (was.0, same tells ∙ was.1);
}

module _ (plant : List Actuator) (driver : ℕ) (clocking recording : Type 0) (own own' : List Entry) (given given' : List ℕ) (whole : Type 0) (calls : List DeviceCall) (before : Watch) where
  -- the clock failed
  pub cut_first : (clocking → given' ≡ given) → CutTurn clocking recording (stand own given whole calls) (stand own given' whole calls) plant driver before ClockFault
  cut_first reading = record {
    cut = nothing;
    fits = tt;
    own = tt;
    leaves = tt;
    gained = record {
      entries = sym (append-nil own);
      gave = λ tells. reading tells ∙ sym (append-nil given);
      wrote = λ tells is. (is, sym (append-nil calls));
    };
  }

  -- the disk failed at the Next
  cut_asked : (reading : ℕ) (seen : List Entry) (end : WorkEnd) → IsCut (Next driver) (max before.now reading) own own' seen end →
      (clocking → given' ≡ given ++ reading ∷ []) →
      CutTurn clocking recording (stand own given whole calls) (stand own' given' whole calls) plant driver before end
  cut_asked reading seen Finished is gave = absurd is
  cut_asked reading seen Closed is gave = absurd is
  cut_asked reading seen ClockFault is gave = absurd is
  cut_asked reading seen Stopped is gave = record {
    cut = at_next reading;
    fits = tt;
    own = tt;
    leaves = tt;
    gained = record { entries = is.0; gave = gave; wrote = λ tells whole_is. (whole_is, sym (append-nil calls)) };
  }
  cut_asked reading seen DiskFault is gave = record {
    cut = at_next reading;
    fits = tt;
    own = tt;
    leaves = tt;
    gained = record { entries = is.0; gave = gave; wrote = λ tells whole_is. (whole_is, sym (append-nil calls)) };
  }

  pub cut_next : (reading moment : ℕ) (seen : List Entry) (end : WorkEnd) → moment ≡ max before.now reading → IsCut (Next driver) moment own own' seen end →
      (clocking → given' ≡ given ++ reading ∷ []) → CutTurn clocking recording (stand own given whole calls) (stand own' given' whole calls) plant driver before end
  cut_next reading moment seen end at is gave = cut_asked reading seen end (subst (λ m. IsCut (Next driver) m own own' seen end) at is) gave

  -- the driver was asked
  module _ (reading : ℕ) (want : Option Due) (ask : own' ≡ own ++ Did 0 (Next driver) (max before.now reading) (answer_for want) ∷ [])
      (gave : clocking → given' ≡ given ++ reading ∷ []) (new : Stand) where
    gained_asked : (turn : Turn) → turn.reading ≡ reading → turn.want ≡ want →
        Gained clocking recording (stand own given whole calls) (stand own' given' whole calls) (asked driver before turn)
    gained_asked turn read wanted =
        subst (λ r. Gained clocking recording (stand own given whole calls) (stand own' given' whole calls) (asked driver before (record { reading = r; want = turn.want; acts = turn.acts; doubt = turn.doubt }))) (sym read)
        (subst (λ w. Gained clocking recording (stand own given whole calls) (stand own' given' whole calls) (asked driver before (record { reading = reading; want = w; acts = turn.acts; doubt = turn.doubt }))) (sym wanted)
        (record { entries = ask; gave = gave; wrote = λ tells whole_is. (whole_is, sym (append-nil calls)) }))

    module _ (after : Watch) (written : Bool)
        (swept : Swept clocking recording (stand own' given' whole calls) new (after_reading reading before) (due_of want before.guards) after [] written) where
      abbrev turn_with : Option Doubted → Turn
      turn_with doubt = record { reading = reading; want = want; acts = swept.acts; doubt = doubt }

      gained_before : (doubt : Option Doubted) → Gained clocking recording (stand own given whole calls) new (made_before driver before (turn_with doubt))
      gained_before doubt = gained_both_of clocking recording (stand own given whole calls) (stand own' given' whole calls) new (asked driver before (turn_with doubt)) (made_by_acts swept.acts)
          (made_before driver before (turn_with doubt)) (gained_asked (turn_with doubt) refl refl) swept.gained refl

      -- it did not look
      turn_of : (rest : Option ℕ) → is_none rest ≡ written → TookTurn clocking recording (stand own given whole calls) new plant driver before after rest
      turn_of rest is = record {
        turn = turn_with None;
        is = swept.tried;
        own = tt;
        after_is = swept.after_is;
        written_is = is ∙ swept.written_is;
        gained = gained_more clocking recording (stand own given whole calls) new new.own new.whole new.calls (made_before driver before (turn_with None)) [] (gained_before None)
            (sym (append-nil new.own)) (λ _. refl) (λ _ whole_is. whole_is);
      }

      module _ (is : written ≡ false) (none : want ≡ None) (own'' : List Entry) (whole' : Type 0) (calls' : List DeviceCall)
          (same : recording → calls' ≡ new.calls) (still : recording → whole' → new.whole) where
        -- it looked
        looked_turn : (rest : ℕ) → IsLook plant driver after.now new.own own'' →
            TookTurn clocking recording (stand own given whole calls) (stand own'' new.given whole' calls') plant driver before after (Some rest)
        looked_turn rest look = by look.looked look.fits look.entries_are
          where
            by : (looked : Looked) → FitsLook plant driver looked → own'' ≡ new.own ++ entries_of after.now looked →
                TookTurn clocking recording (stand own given whole calls) (stand own'' new.given whole' calls') plant driver before after (Some rest)
            by quiet fits entries = record {
              turn = turn_with None;
              is = swept.tried;
              own = tt;
              after_is = swept.after_is;
              written_is = sym is ∙ swept.written_is;
              gained = gained_more clocking recording (stand own given whole calls) new own'' whole' calls' (made_before driver before (turn_with None)) [] (gained_before None) entries same still;
            }
            by (doubted point differs answer) fits entries =
                let doubt : Doubted = record { point = point; differs = differs; answer = answer } in record {
                  turn = turn_with (Some doubt);
                  is = swept.tried;
                  own = (fits, none, sym swept.written_is ∙ is);
                  after_is = swept.after_is;
                  written_is = sym is ∙ swept.written_is;
                  gained = gained_more clocking recording (stand own given whole calls) new own'' whole' calls' (made_before driver before (turn_with (Some doubt)))
                      (doubts (after_turn (turn_with (Some doubt)) before).now (Some doubt)) (gained_before (Some doubt))
                      (entries ∙ ap (λ w. new.own ++ Did 0 (Doubt point differs) w.now answer ∷ []) swept.after_is) same still;
                }

        cut_look : (end : WorkEnd) → IsCutLook plant driver after.now new.own own'' end →
            CutTurn clocking recording (stand own given whole calls) (stand own'' new.given whole' calls') plant driver before end
        cut_look end look = record {
          cut = at_doubt (turn_with None) look.point look.differs;
          fits = swept.tried;
          own = (look.fits, none, sym swept.written_is ∙ is);
          leaves = look.disk;
          gained = gained_more clocking recording (stand own given whole calls) new own'' whole' calls' (made_before driver before (turn_with None))
              (mark (Doubt look.point look.differs) (after_turn (turn_with None) before).now end) (gained_before None)
              (look.entries_are ∙ ap (λ w. new.own ++ mark (Doubt look.point look.differs) w.now end) swept.after_is) same still;
        }

    turn_cut : (end : WorkEnd) → SweptCut clocking recording (stand own' given' whole calls) new (after_reading reading before) (due_of want before.guards) end →
        CutTurn clocking recording (stand own given whole calls) new plant driver before end
    turn_cut end swept =
        let turn : Turn = record { reading = reading; want = want; acts = swept.acts; doubt = None } in
        let d = decided swept.want (after_acts swept.acts (after_reading reading before)).now in record {
          cut = in_turn turn d swept.cut;
          fits = record { want = swept.want; left = swept.left; tried = swept.tried; decides = refl; fits = swept.fits };
          own = tt;
          leaves = swept.leaves;
          gained = gained_both_of clocking recording (stand own given whole calls) (stand own' given' whole calls) new (asked driver before turn)
              (both (made_by_acts swept.acts) (left_by_try end d swept.cut)) (left_by driver end before (in_turn turn d swept.cut))
              (gained_asked turn refl refl) swept.gained (sym (both_assoc (asked driver before turn) (made_by_acts swept.acts) (left_by_try end d swept.cut)));
        }

  -- the same, where the moment is that of the reading
  module _ (reading moment : ℕ) (want : Option Due) (at : moment ≡ max before.now reading) (ask : own' ≡ own ++ Did 0 (Next driver) moment (answer_for want) ∷ [])
      (gave : clocking → given' ≡ given ++ reading ∷ []) (new : Stand) where
    asked_then : own' ≡ own ++ Did 0 (Next driver) (max before.now reading) (answer_for want) ∷ []
    asked_then = subst (λ m. own' ≡ own ++ Did 0 (Next driver) m (answer_for want) ∷ []) at ask

    abbrev SweptAt : Watch → Bool → Type 0
    SweptAt after written = Swept clocking recording (stand own' given' whole calls) new (watch moment before.guards) (due_of want before.guards) after [] written

    swept_then : (after : Watch) (written : Bool) → SweptAt after written →
        Swept clocking recording (stand own' given' whole calls) new (after_reading reading before) (due_of want before.guards) after [] written
    swept_then after written swept =
        subst (λ m. Swept clocking recording (stand own' given' whole calls) new (watch m before.guards) (due_of want before.guards) after [] written) at swept

    pub turn_at : (after : Watch) (written : Bool) (rest : Option ℕ) → is_none rest ≡ written →
        Swept clocking recording (stand own' given' whole calls) new (watch moment before.guards) (due_of want before.guards) after [] written →
        TookTurn clocking recording (stand own given whole calls) new plant driver before after rest
    turn_at after written rest is swept = turn_of reading want asked_then gave new after written (swept_then after written swept) rest is

    pub turn_cut_at : (end : WorkEnd) → SweptCut clocking recording (stand own' given' whole calls) new (watch moment before.guards) (due_of want before.guards) end →
        CutTurn clocking recording (stand own given whole calls) new plant driver before end
    turn_cut_at end swept = turn_cut reading want asked_then gave new end
        (subst (λ m. SweptCut clocking recording (stand own' given' whole calls) new (watch m before.guards) (due_of want before.guards) end) at swept)

    module _ (none : want ≡ None) (after : Watch) (written : Bool) (is : written ≡ false)
        (swept : Swept clocking recording (stand own' given' whole calls) new (watch moment before.guards) (due_of want before.guards) after [] written)
        (own'' : List Entry) (whole' : Type 0) (calls' : List DeviceCall) (same : recording → calls' ≡ new.calls) (still : recording → whole' → new.whole) where
      pub looked_turn_at : (rest : ℕ) → IsLook plant driver after.now new.own own'' →
          TookTurn clocking recording (stand own given whole calls) (stand own'' new.given whole' calls') plant driver before after (Some rest)
      looked_turn_at rest look = looked_turn reading want asked_then gave new after written (swept_then after written swept) is none own'' whole' calls' same still rest look

      pub cut_look_at : (end : WorkEnd) → IsCutLook plant driver after.now new.own own'' end →
          CutTurn clocking recording (stand own given whole calls) (stand own'' new.given whole' calls') plant driver before end
      cut_look_at end look = cut_look reading want asked_then gave new after written (swept_then after written swept) is none own'' whole' calls' same still end look
