-- Source: own.
-- A pair of disks between one opening and the next.
use Rattle.std.specs.Prelude.{ℕ, List, [], ◌∷◌}
use Rattle.def_history.specs.declared.entry.Entry.{Entry}
use Rattle.def_history.specs.History.{IsLegal, run, run_tried}
use Rattle.def_history.specs.Once.{Life}
use Rattle.boss_model.specs.declared.state.Actuator.{Actuator}
use Rattle.boss_model.specs.Settle.{opened}
use Rattle.boss_model.specs.State.{Persistent, State}
use Rattle.def_disk_pair.specs.Pairs.{Opens}
use Rattle.boss_shared.specs.Walking.{shortened}
use Rattle.boss_disk_pair.specs.Images.{OpensToOne}

-- The bytes of both disks as they were opened, what was found, and what was done then. Where a stop came in the middle of a call, or a
-- disk failed in it, the last entry is its mark, and of the commands in it so many were tried.
pub record Span : Type 0 where
  pub first : List ℕ
  pub second : List ℕ
  pub opens : Persistent
  pub history : List Entry
  pub tries : ℕ

abbrev pub begins : List Actuator → Span → State
begins plant span = opened plant span.opens

-- what lasts of all that was answered, and of that with what was under way
abbrev pub done : List Actuator → Span → Persistent
done plant span = (run plant span.history (begins plant span)).persistent

abbrev pub tried : List Actuator → Span → Persistent
tried plant span = (run_tried plant (shortened span.tries span.history) (begins plant span)).persistent

-- it is what the bytes stand for, and each answer is the machine's
pub record IsSpan (plant : List Actuator) (digest : List ℕ) (span : Span) : Type 0 where
  pub opens : Opens plant digest span.opens span.first span.second
  pub legal : IsLegal plant span.history (begins plant span)

-- what a stop may leave of the disks: they are clean, and open to the one or the other
abbrev pub IsLeftBehind : List Actuator → List ℕ → Span → List ℕ → List ℕ → Type 0
IsLeftBehind plant digest span first second = OpensToOne plant digest (done plant span) (tried plant span) first second

abbrev pub LeavesTo : List Actuator → List ℕ → Span → List Span → Type 0
LeavesTo plant digest span [] = Unit {0}
LeavesTo plant digest span (next ∷ spans) = IsLeftBehind plant digest span next.first next.second

-- each was opened on what the one before it left
abbrev pub AreSpans : List Actuator → List ℕ → List Span → Type 0
AreSpans plant digest [] = Unit {0}
AreSpans plant digest (span ∷ spans) = IsSpan plant digest span × LeavesTo plant digest span spans × AreSpans plant digest spans

-- the same as lives of the machine, without the bytes
abbrev pub life_of : Span → Life
life_of span = record { opens = span.opens; history = shortened span.tries span.history }
