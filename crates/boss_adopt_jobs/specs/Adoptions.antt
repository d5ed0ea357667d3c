-- Source: own.
-- The adoption of a changed catalogue, by what two disks or a journal's two files hold.
use Rattle.std.specs.Prelude.{◌≡◌, ◌⊎◌, ℕ, ◌<◌, List, length, Err}
use Rattle.boss_model.specs.Catalogue.{Catalogue, actuators}
use Rattle.boss_model.specs.Limits.{last_number}
use Rattle.boss_model.specs.State.{Persistent, State}
use Rattle.boss_outside.specs.Counts.{Rose}
use Rattle.boss_outside.specs.declared.sink.Sink as sink
use Rattle.def_disk_pair.specs.Pairs.{OpensCleanly}
use Rattle.boss_disk_pair.specs.Images.{OpensEither, OpensTo}
use Rattle.boss_pair_find.specs.Holds.{IsNewPair}
use Rattle.boss_opening.specs.Opens.{digest_of, OpenedAt, WhileLooked}
use Rattle.law_adoption.specs.Adopted.{adopted}
use Rattle.law_adoption.specs.Renumber.{renumbered}
use Rattle.boss_adopting.specs.Adopts.{Adopts}
use Rattle.boss_adopting.specs.Counts.{removed}
use Rattle.boss_adopting.specs.declared.refusal.AdoptRefusal.{AdoptRefusal}
use Rattle.boss_changing.specs.Adoptions.{MayAdopt}
use Rattle.boss_journal_lines.specs.Adoption.{adopted_line}
use Rattle.boss_journal_lines.specs.Reports.{new_line}
use Rattle.boss_jobs.specs.Crashes.{WhileMoved}
use Rattle.boss_jobs.specs.Jobs.{TellsLine}
use Rattle.boss_jobs.specs.Journals.{HadNoJournal, HoldSame, Pair, RefusedJournal, StillStands}
use Rattle.boss_adopt_jobs.specs.Telling.{TellsRefusal}

-- ---- what a pair opens to

abbrev pub OpensUnder : Catalogue → Persistent → Pair → Type 0
OpensUnder catalogue d pair = OpensTo (actuators catalogue) (digest_of catalogue) d pair.first pair.second

-- the state of the old catalogue on the points of the new one
abbrev pub taken_over : Catalogue → Catalogue → Persistent → Persistent
taken_over old new d = adopted (renumbered old new) d

-- with the old catalogue to this state, or with the new one to what is taken over of it
abbrev pub OpensToEither : Catalogue → Catalogue → Persistent → List ℕ → List ℕ → Type 0
OpensToEither old new d first second = OpensEither (actuators old) (digest_of old) d (actuators new) (digest_of new) (taken_over old new d) first second

-- ---- what comes of a journal that was opened at a state, after so many events

module _ {K : Type 0} (k : sink.Ghosts K) (old new : Catalogue) (d : Persistent) (number : ℕ) (was now : Pair) (before after : K) (status : ℕ) where
  -- It was adopted: one line tells the numbers, with status 0, and the pair opens with the new catalogue to the adopted state, after as
  -- many events.
  pub record Adopted : Type 0 where
    pub may : MayAdopt old new d
    pub tells : TellsLine k (adopted_line number (length new.points) (length (removed old new)) (length (removed new old))) 0 before after status
    pub opens : was.tells → OpensUnder new (taken_over old new d) now
    pub counted : was.tells → number < last_number → OpensCleanly (actuators new) (digest_of new) (taken_over old new d) number now.first now.second
    pub faults : now.faults ≡ was.faults

  -- The state can't be adopted: one line tells the point, with status 15, and the pair opens with the old catalogue to the state.
  pub record RefusedAdoption : Type 0 where
    pub refusal : AdoptRefusal
    pub refuses : Adopts old new d (Err refusal)
    pub tells : TellsRefusal k refusal before after status
    pub opens : was.tells → OpensUnder old d now
    pub faults : now.faults ≡ was.faults

  -- A disk failed as the adopted state was written, which is status 5: nothing is told, and the pair opens with the old catalogue to the
  -- state, or with the new one to the adopted state.
  pub record BrokeAdoption : Type 0 where
    pub may : MayAdopt old new d
    pub status_is : status ≡ 5
    pub told : after ≡ before
    pub opens : was.tells →
        OpensEither (actuators old) (digest_of old) d (actuators new) (digest_of new) (taken_over old new d) now.first now.second
    pub faults : Rose was.faults now.faults

  -- No memory was to be had, which is status 8: nothing is told, and the pair opens with the old catalogue to the state.
  pub record LackedAdoption : Type 0 where
    pub status_is : status ≡ 8
    pub told : after ≡ before
    pub opens : was.tells → OpensUnder old d now
    pub faults : now.faults ≡ was.faults

  abbrev pub ComesTo : Type 0
  ComesTo = Adopted ⊎ RefusedAdoption ⊎ BrokeAdoption ⊎ LackedAdoption

-- ---- the job

module _ {K : Type 0} (k : sink.Ghosts K) (old new : Catalogue) (was now : Pair) (before after : K) (status : ℕ) where
  -- The pair is new: one line tells it, with status 0, and it holds what it held.
  pub record FoundNew : Type 0 where
    pub new_pair : was.tells → IsNewPair was.first was.second
    pub tells : TellsLine k new_line 0 before after status
    pub holds : was.tells → HoldSame was now
    pub faults : now.faults ≡ was.faults
    -- what a crash may leave meanwhile
    pub images : was.tells → now.whole → WhileLooked was.stories now.stories

  -- The pair, which is not new, was opened with the old catalogue at the state that its bytes stand for.
  pub record OpenedToAdopt : Type 0 where
    pub state : State
    pub number : ℕ
    pub not_new : was.tells → IsNewPair was.first was.second → ⊥
    pub opened : was.tells → OpenedAt (actuators old) (digest_of old) was.first was.second state number
    pub comes : ComesTo k old new state.persistent number was now before after status
    -- what a crash may leave meanwhile
    pub images : was.tells → now.whole → WhileMoved (actuators old) (digest_of old) was.first was.second was.stories (OpensToEither old new state.persistent) now.stories

  -- where it was not opened, what it stands for under the old catalogue is still there
  abbrev pub AdoptsOver : Type 0
  AdoptsOver = (HadNoJournal was now before after status × (was.tells → was.lasts → StillStands old was now))
      ⊎ RefusedJournal k old was now before after status ⊎ FoundNew ⊎ OpenedToAdopt
