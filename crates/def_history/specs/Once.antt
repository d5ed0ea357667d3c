-- Source: own.
-- That a process's number is made once: in a history, and where the machine is opened again and again.
use Rattle.std.specs.Prelude.{◌≡◌, ◌⊎◌, ℕ, List, [], ◌∷◌}
use Rattle.boss_model.specs.declared.answer.Answer.{Answer}
use Rattle.boss_model.specs.declared.answer.Answer.TheVariants as answer
use Rattle.boss_model.specs.declared.answer.Refusal.{Refusal}
use Rattle.boss_model.specs.declared.command.Command.{Command}
use Rattle.boss_model.specs.declared.kept.Acceptance.{Acceptance}
use Rattle.boss_model.specs.declared.state.Actuator.{Actuator}
use Rattle.boss_model.specs.Machine.{pass_time, step}
use Rattle.boss_model.specs.Replies.{answer_of}
use Rattle.boss_model.specs.Settle.{opened, settle}
use Rattle.boss_model.specs.Sound.{IsSoundPersistent}
use Rattle.boss_model.specs.State.{Persistent, State}
use Rattle.boss_model.specs.Time.{moment_of}
use Rattle.law_machine.specs.Once.{IsUnder}
use Rattle.def_history.specs.declared.entry.Entry.{Entry}
use Rattle.def_history.specs.declared.entry.Entry.TheVariants.{Did, Broke}
use Rattle.def_history.specs.declared.entry.Tried.{Tried}
use Rattle.def_history.specs.History.{after_entry, run, run_tried, IsLegal}

-- ---- lives of the machine

-- the persistent part that it opens, and what happens then
pub record Life : Type 0 where
  pub opens : Persistent
  pub history : List Entry

abbrev pub begins : List Actuator → Life → State
begins plant life = opened plant life.opens

-- what it leaves: all that was done, and where the disk failed maybe what was under way
abbrev pub IsLeft : List Actuator → Life → Persistent → Type 0
IsLeft plant life d =
    (d ≡ (run plant life.history (begins plant life)).persistent) ⊎ (d ≡ (run_tried plant life.history (begins plant life)).persistent)

abbrev pub LeadsTo : List Actuator → Life → List Life → Type 0
LeadsTo plant life [] = Unit {0}
LeadsTo plant life (next ∷ lives) = IsLeft plant life next.opens

-- each is legal, and each opens what the one before it left
abbrev pub AreLives : List Actuator → List Life → Type 0
AreLives plant [] = Unit {0}
AreLives plant (life ∷ lives) = IsLegal plant life.history (begins plant life) × LeadsTo plant life lives × AreLives plant lives

-- the calls of a mark: that of the caller that was told, and those of the others
abbrev pub under_way : ℕ → List (Command × ℕ) → List Tried → List Tried
under_way session commands others = record { session = session; commands = commands } ∷ others

-- what was under way when the disk failed is in what the next one opens
abbrev pub OpensTried : List Actuator → Life → List Life → Type 0
OpensTried plant life [] = Unit {0}
OpensTried plant life (next ∷ lives) = next.opens ≡ (run_tried plant life.history (begins plant life)).persistent

-- the first opens what is sound
abbrev pub StartsSound : List Actuator → List Life → Type 0
StartsSound plant [] = Unit {0}
StartsSound plant (life ∷ lives) = IsSoundPersistent plant life.opens

-- ---- a number that was made

abbrev pub IsRefused : Answer → Type 0
IsRefused given = (why : Refusal) × (given ≡ answer.Refused why)

-- the command does nothing but what time does, and is answered so or refused
abbrev pub MakesNothing : List Actuator → ℕ → Command → ℕ → Answer → Answer → State → Type 0
MakesNothing plant session command moment answered given s =
    ((step plant session command moment s).state ≡ settle plant (pass_time plant (moment_of s.persistent moment) s)) × ((given ≡ answered) ⊎ IsRefused given)

-- the entry does that, if it is the process's under this number
abbrev pub IsSpentAt : List Actuator → ℕ → ℕ → Answer → State → Entry → Type 0
IsSpentAt plant owner seq answered s (Did session command moment given) =
    IsUnder owner seq session command s → MakesNothing plant session command moment answered given s
IsSpentAt plant owner seq answered s (Broke session commands others) = Unit {0}

-- each entry of a history, and of lives
abbrev pub IsSpent : List Actuator → ℕ → ℕ → Answer → List Entry → State → Type 0
IsSpent plant owner seq answered [] s = Unit {0}
IsSpent plant owner seq answered (entry ∷ entries) s =
    IsSpentAt plant owner seq answered s entry × IsSpent plant owner seq answered entries (after_entry plant entry s)

abbrev pub IsSpentIn : List Actuator → ℕ → ℕ → Answer → List Life → Type 0
IsSpentIn plant owner seq answered [] = Unit {0}
IsSpentIn plant owner seq answered (life ∷ lives) =
    IsSpent plant owner seq answered life.history (begins plant life) × IsSpentIn plant owner seq answered lives

-- ---- once

-- the entry was accepted as the process's request of this number
abbrev pub IsAccepted : ℕ → ℕ → Acceptance → State → Entry → Type 0
IsAccepted owner seq accepted s (Did session command moment given) = IsUnder owner seq session command s × (given ≡ answer_of accepted)
IsAccepted owner seq accepted s (Broke session commands others) = ⊥

-- where an entry of a history was accepted under a number, the number is spent in all that follows, and in the lives after it
abbrev pub IsOnce : List Actuator → List Entry → State → List Life → Type 0
IsOnce plant [] s lives = Unit {0}
IsOnce plant (entry ∷ entries) s lives =
    ((owner seq : ℕ) (accepted : Acceptance) → IsAccepted owner seq accepted s entry →
    IsSpent plant owner seq (answer_of accepted) entries (after_entry plant entry s) × IsSpentIn plant owner seq (answer_of accepted) lives)
    × IsOnce plant entries (after_entry plant entry s) lives

abbrev pub AreOnce : List Actuator → List Life → Type 0
AreOnce plant [] = Unit {0}
AreOnce plant (life ∷ lives) = IsOnce plant life.history (begins plant life) lives × AreOnce plant lives
