-- Source: own.
-- What the turns of a guarded worker make: entries, moments that the clock gave, and calls of devices. All that is made at a
-- moment is made at the greatest reading so far.
use Rattle.std.specs.Prelude.{ℕ, max, Bool, List, [], ◌∷◌, ◌++◌, Option, Some, None}
use Rattle.boss_model.specs.declared.answer.Answer.{Answer}
use Rattle.boss_model.specs.declared.answer.Answer.TheVariants.{Want, Nothing}
use Rattle.boss_model.specs.declared.command.Command.TheVariants.{Doubt, Next, Read, Report}
use Rattle.def_history.specs.declared.entry.Entry.{Entry}
use Rattle.def_history.specs.declared.entry.Entry.TheVariants.{Did}
use Rattle.def_guards.specs.declared.guard.Due.{Due}
use Rattle.def_guards.specs.Acts.{Watch, Decision, Reason, passed, shown, Act, wrote, kept}
use Rattle.def_guards.specs.Turns.{Turn, Doubt as Doubted, WriteCut, at_clock, at_report, TryCut, at_read, at_write, Cut, nothing, at_next, in_turn, at_doubt, after_turn, after_turns}
use Rattle.boss_expiry.specs.declared.end.WorkEnd.{WorkEnd}
use Rattle.boss_expiry.specs.Ends.{mark}
use Rattle.boss_drive.specs.Driving.{Made, both}

abbrev pub no_more : Made
no_more = record { entries = []; moments = []; calls = [] }

-- ---- one want

abbrev pub reads : Decision → Reason → List Entry
reads d passed = []
reads d (shown answer) = Did 0 (Read d.point) d.now answer ∷ []

abbrev pub made_by_reading : List Entry → Made
made_by_reading entries = record { entries = entries; moments = []; calls = [] }

abbrev pub made_by_write : Decision → Bool → ℕ → Answer → Made
made_by_write d ok told answer = record {
  entries = Did 0 (Report d.point d.version ok) (max d.now told) answer ∷ [];
  moments = told ∷ [];
  calls = record { point = d.point; value = d.value; ok = ok } ∷ [];
}

abbrev pub made_by_act : Act → Made
made_by_act (wrote d reason ok told answer) = both (made_by_reading (reads d reason)) (made_by_write d ok told answer)
made_by_act (kept d answer) = made_by_reading (Did 0 (Read d.point) d.now answer ∷ [])

abbrev pub made_by_acts : List Act → Made
made_by_acts [] = no_more
made_by_acts (act ∷ acts) = both (made_by_act act) (made_by_acts acts)

-- a want whose trial an end cut
abbrev pub left_by_write : WorkEnd → Decision → WriteCut → Made
left_by_write end d (at_clock ok) = record { entries = []; moments = []; calls = record { point = d.point; value = d.value; ok = ok } ∷ [] }
left_by_write end d (at_report ok told) = record {
  entries = mark (Report d.point d.version ok) (max d.now told) end;
  moments = told ∷ [];
  calls = record { point = d.point; value = d.value; ok = ok } ∷ [];
}

abbrev pub left_by_try : WorkEnd → Decision → TryCut → Made
left_by_try end d at_read = made_by_reading (mark (Read d.point) d.now end)
left_by_try end d (at_write reason cut) = both (made_by_reading (reads d reason)) (left_by_write end d cut)

-- ---- a turn

abbrev pub answer_for : Option Due → Answer
answer_for None = Nothing
answer_for (Some want) = Want want.point want.version want.value

-- the Next of a turn
abbrev pub asked : ℕ → Watch → Turn → Made
asked driver watch turn = record {
  entries = Did 0 (Next driver) (max watch.now turn.reading) (answer_for turn.want) ∷ [];
  moments = turn.reading ∷ [];
  calls = [];
}

-- a turn up to a doubt
abbrev pub made_before : ℕ → Watch → Turn → Made
made_before driver watch turn = both (asked driver watch turn) (made_by_acts turn.acts)

abbrev pub doubts : ℕ → Option Doubted → List Entry
doubts moment None = []
doubts moment (Some d) = Did 0 (Doubt d.point d.differs) moment d.answer ∷ []

-- entries without a reading of the clock or a call
abbrev pub with_more : Made → List Entry → Made
with_more made more = record { entries = made.entries ++ more; moments = made.moments; calls = made.calls }

abbrev pub made_in : ℕ → Watch → Turn → Made
made_in driver watch turn = with_more (made_before driver watch turn) (doubts (after_turn turn watch).now turn.doubt)

abbrev pub left_by : ℕ → WorkEnd → Watch → Cut → Made
left_by driver end watch nothing = no_more
left_by driver end watch (at_next reading) = record { entries = mark (Next driver) (max watch.now reading) end; moments = reading ∷ []; calls = [] }
left_by driver end watch (in_turn turn d cut) = both (made_before driver watch turn) (left_by_try end d cut)
left_by driver end watch (at_doubt turn point differs) = with_more (made_before driver watch turn) (mark (Doubt point differs) (after_turn turn watch).now end)

abbrev pub made_in_turns : ℕ → Watch → List Turn → Made
made_in_turns driver watch [] = no_more
made_in_turns driver watch (turn ∷ turns) = both (made_in driver watch turn) (made_in_turns driver (after_turn turn watch) turns)

-- whole turns, and what an end left of one more
abbrev pub made_by : ℕ → WorkEnd → Watch → List Turn → Cut → Made
made_by driver end watch turns last = both (made_in_turns driver watch turns) (left_by driver end (after_turns turns watch) last)
