-- Source: own.
-- The moments of a journal taken back, by what two disks or a journal's two files hold.
use Rattle.std.specs.Prelude.{◌≡◌, ◌⊎◌, ℕ, ◌+◌, ◌≤◌, ◌<◌, List}
use Rattle.boss_model.specs.Catalogue.{Catalogue, actuators}
use Rattle.boss_model.specs.Limits.{last_number}
use Rattle.boss_model.specs.State.{Persistent, State}
use Rattle.boss_outside.specs.Counts.{Rose}
use Rattle.boss_outside.specs.declared.sink.Sink as sink
use Rattle.def_disk_pair.specs.Pairs.{OpensCleanly}
use Rattle.boss_disk_pair.specs.Images.{OpensTo, OpensToOne}
use Rattle.boss_disk_pair.specs.Rests.{counted}
use Rattle.boss_pair_find.specs.Holds.{IsNewPair}
use Rattle.boss_opening.specs.Opens.{digest_of, OpenedAt, WhileLooked}
use Rattle.boss_journal_lines.specs.Reports.{new_line}
use Rattle.boss_jobs.specs.Crashes.{WhileMoved}
use Rattle.boss_jobs.specs.Jobs.{TellsLine}
use Rattle.boss_jobs.specs.Journals.{HadNoJournal, HoldSame, Pair, RefusedJournal, StillStands}
use Rattle.law_shift.specs.Shifted.{MayShift, shifted}
use Rattle.boss_shift_jobs.specs.Lines.{shifted_line, too_far_line}

-- ---- what a pair opens to

abbrev pub OpensUnder : Catalogue → Persistent → Pair → Type 0
OpensUnder catalogue d pair = OpensTo (actuators catalogue) (digest_of catalogue) d pair.first pair.second

abbrev pub OpensAfter : Catalogue → Persistent → ℕ → Pair → Type 0
OpensAfter catalogue d number pair = OpensCleanly (actuators catalogue) (digest_of catalogue) d number pair.first pair.second

-- to this state, or to it with its moments taken back
abbrev pub OpensToEither : Catalogue → ℕ → Persistent → List ℕ → List ℕ → Type 0
OpensToEither catalogue by d first second = OpensToOne (actuators catalogue) (digest_of catalogue) d (shifted by d) first second

-- ---- what comes of a journal that was opened at a state, after so many events

module _ {K : Type 0} (k : sink.Ghosts K) (catalogue : Catalogue) (by : ℕ) (d : Persistent) (number : ℕ) (was now : Pair) (before after : K) (status : ℕ) where
  -- Its moments were taken back: one line tells what it stands for, with status 0, and the pair opens with the same catalogue to the
  -- state with its moments taken back, after one event more.
  pub record Shifted : Type 0 where
    pub may : MayShift by d
    pub tells : TellsLine k (shifted_line (counted (number + 1)) (shifted by d)) 0 before after status
    pub opens : was.tells → OpensUnder catalogue (shifted by d) now
    pub numbered : was.tells → number + 1 < last_number → OpensAfter catalogue (shifted by d) (number + 1) now
    pub faults : now.faults ≡ was.faults

  -- They can't be taken back so far: one line tells how far they can at most, with status 15, and the pair opens to the state, after as
  -- many events.
  pub record TooFar : Type 0 where
    pub refuses : ¬ MayShift by d
    pub most : ℕ
    pub may : MayShift most d
    pub greatest : (other : ℕ) → MayShift other d → other ≤ most
    pub tells : TellsLine k (too_far_line most) 15 before after status
    pub opens : was.tells → OpensUnder catalogue d now
    pub numbered : was.tells → number < last_number → OpensAfter catalogue d number now
    pub faults : now.faults ≡ was.faults

  -- A disk failed as the state was written, which is status 5: nothing is told, and the pair opens to the state, or to it with its
  -- moments taken back.
  pub record BrokeShift : Type 0 where
    pub may : MayShift by d
    pub status_is : status ≡ 5
    pub told : after ≡ before
    pub opens : was.tells → OpensToEither catalogue by d now.first now.second
    pub faults : Rose was.faults now.faults

  -- No memory was to be had, which is status 8: nothing is told, and the pair opens to the state.
  pub record LackedShift : Type 0 where
    pub status_is : status ≡ 8
    pub told : after ≡ before
    pub opens : was.tells → OpensUnder catalogue d now
    pub faults : now.faults ≡ was.faults

  abbrev pub ComesTo : Type 0
  ComesTo = Shifted ⊎ TooFar ⊎ BrokeShift ⊎ LackedShift

-- ---- the job

module _ {K : Type 0} (k : sink.Ghosts K) (catalogue : Catalogue) (by : ℕ) (was now : Pair) (before after : K) (status : ℕ) where
  -- The pair is new: one line tells it, with status 0, and it holds what it held.
  pub record FoundNew : Type 0 where
    pub new_pair : was.tells → IsNewPair was.first was.second
    pub tells : TellsLine k new_line 0 before after status
    pub holds : was.tells → HoldSame was now
    pub faults : now.faults ≡ was.faults
    -- what a crash may leave meanwhile
    pub images : was.tells → now.whole → WhileLooked was.stories now.stories

  -- The pair, which is not new, was opened at the state that its bytes stand for.
  pub record OpenedToShift : Type 0 where
    pub state : State
    pub number : ℕ
    pub not_new : was.tells → IsNewPair was.first was.second → ⊥
    pub opened : was.tells → OpenedAt (actuators catalogue) (digest_of catalogue) was.first was.second state number
    pub comes : ComesTo k catalogue by state.persistent number was now before after status
    -- what a crash may leave meanwhile
    pub images : was.tells → now.whole → WhileMoved (actuators catalogue) (digest_of catalogue) was.first was.second was.stories (OpensToEither catalogue by state.persistent) now.stories
    -- and where the moments can't be taken back so far: the state, and nothing else
    pub stays : ¬ MayShift by state.persistent → was.tells → now.whole →
        WhileMoved (actuators catalogue) (digest_of catalogue) was.first was.second was.stories (OpensTo (actuators catalogue) (digest_of catalogue) state.persistent) now.stories

  -- where it was not opened, what it stands for is still there
  abbrev pub ShiftsOver : Type 0
  ShiftsOver = (HadNoJournal was now before after status × (was.tells → was.lasts → StillStands catalogue was now))
      ⊎ RefusedJournal k catalogue was now before after status ⊎ FoundNew ⊎ OpenedToShift
