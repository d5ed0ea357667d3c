-- What the worker that lets time pass adds is all in the lane of time.
use Rattle.std.proofs.Common.{◌≡◌, ℕ, false, List, [], ◌∷◌, ◌++◌, length, refl, sym, ap, ◌∙◌, subst}
use Rattle.std.specs.List.{AllByRecursion}
use Rattle.std.proofs.lemmas.List.{append-nil}
use Rattle.boss_model.specs.declared.answer.Answer.{Answer}
use Rattle.boss_model.specs.declared.command.Command.{Command}
use Rattle.boss_model.specs.declared.command.Command.TheVariants.{Tick}
use Rattle.boss_model.specs.declared.state.Actuator.{Actuator}
use Rattle.def_history.specs.declared.entry.Entry.{Entry}
use Rattle.def_history.specs.declared.entry.Entry.TheVariants.{Did}
use Rattle.def_history.specs.History.{deeds}
use Rattle.def_lanes.specs.Lanes.{of_time, lane_of}
use Rattle.def_lanes.specs.Parts.{AreTimed, Added}
use Rattle.def_lanes.specs.Waits.{paused}
use Rattle.def_lanes.proofs.Choices.{deeds-append}
use Rattle.def_lanes.proofs.Moments.{timed-front, timed-next}
use Rattle.boss_expiry.specs.Beats.{IsBeatOf}
use Rattle.boss_expiry.specs.declared.end.WorkEnd.{WorkEnd}
use Rattle.boss_expiry.specs.declared.end.WorkEnd.TheVariants.{Finished, Closed, ClockFault, Stopped, DiskFault}
use Rattle.boss_expiry.specs.Ends.{cut_of, mark, unused}
use Rattle.boss_expiry.specs.Ticking.{ticks, moments, Expired}

ticks-lane : (plant : List Actuator) (turns : List (ℕ × Answer)) → AllByRecursion (λ entry. lane_of plant entry ≡ of_time) (ticks turns)
ticks-lane plant [] = tt
ticks-lane plant (turn ∷ turns) = (refl, ticks-lane plant turns)

ticks-timed : (turns : List (ℕ × Answer)) → AreTimed (moments turns) (ticks turns)
ticks-timed [] = refl
ticks-timed (turn ∷ turns) = timed-next 0 turn.0 Tick turn.1 (moments turns) (ticks turns) (ticks-timed turns)

ticks-deeds : (turns : List (ℕ × Answer)) → deeds (ticks turns) ≡ ticks turns
ticks-deeds [] = refl
ticks-deeds (turn ∷ turns) = ap (λ rest. Did 0 Tick turn.0 turn.1 ∷ rest) (ticks-deeds turns)

-- a mark is nothing that was done
pub mark-deeds : (command : Command) (moment : ℕ) (end : WorkEnd) → deeds (mark command moment end) ≡ []
mark-deeds command moment Finished = refl
mark-deeds command moment Closed = refl
mark-deeds command moment ClockFault = refl
mark-deeds command moment Stopped = refl
mark-deeds command moment DiskFault = refl

pub expired-added : (plant : List Actuator) (clocking pausing : Type 0) (own own' : List Entry) (given given' : List ℕ) (pauses pauses' most : ℕ) (end : WorkEnd) →
    Expired own own' clocking given given' pausing pauses pauses' most end → (pausing → pauses ≡ 0) →
    (moments : List ℕ) × Added plant of_time (IsBeatOf pausing pauses' (record { moments = moments; cut = cut_of end; closed = false })) clocking moments own own' given given'
expired-added plant clocking pausing own own' given given' pauses pauses' most end is fresh =
    let made : deeds (ticks is.turns ++ mark Tick is.last end) ≡ ticks is.turns =
    deeds-append (ticks is.turns) (mark Tick is.last end) ∙ ap (λ rest. deeds (ticks is.turns) ++ rest) (mark-deeds Tick is.last end)
    ∙ append-nil (deeds (ticks is.turns)) ∙ ticks-deeds is.turns in (
      moments is.turns ++ unused is.last end,
      record {
        more = ticks is.turns;
        grew = ap deeds is.entries ∙ deeds-append own (ticks is.turns ++ mark Tick is.last end) ∙ ap (λ rest. deeds own ++ rest) made;
        of_lane = ticks-lane plant is.turns;
        agrees = record {
          turns = is.turns;
          last = is.last;
          end = end;
          entries_are = refl;
          moments_are = refl;
          cut_is = refl;
          waited = λ tells. is.waited tells ∙ ap (λ first. paused (length is.turns) first) (fresh tells);
        };
        gave = is.gave;
        timed = timed-front (moments is.turns) (unused is.last end) (ticks is.turns) (ticks-timed is.turns);
      },
    )
