-- Source: own.
-- What is said on the way of a journal that is not new.
use Rattle.std.specs.Prelude.{◌⊎◌, ℕ}
use Rattle.boss_model.specs.Catalogue.{Catalogue, actuators}
use Rattle.boss_model.specs.State.{State}
use Rattle.boss_outside.specs.declared.sink.Sink as sink
use Rattle.boss_disk_pair.specs.Images.{OpensTo}
use Rattle.boss_opening.specs.Opens.{digest_of, OpenedAt}
use Rattle.boss_jobs.specs.Crashes.{WhileMoved}
use Rattle.boss_jobs.specs.Journals.{HadNoJournal, Pair, RefusedJournal, StillStands}
use Rattle.law_shift.specs.Shifted.{MayShift}
use Rattle.boss_shift_jobs.specs.Shifts.{ComesTo, OpensToEither}

module _ {K : Type 0} (k : sink.Ghosts K) (catalogue : Catalogue) (by : ℕ) (was now : Pair) (before after : K) (status : ℕ) where
  -- It was opened at the state that its bytes stand for.
  pub record Opened : Type 0 where
    pub state : State
    pub number : ℕ
    pub opened : was.tells → OpenedAt (actuators catalogue) (digest_of catalogue) was.first was.second state number
    pub comes : ComesTo k catalogue by state.persistent number was now before after status
    pub images : was.tells → now.whole → WhileMoved (actuators catalogue) (digest_of catalogue) was.first was.second was.stories (OpensToEither catalogue by state.persistent) now.stories
    pub stays : ¬ MayShift by state.persistent → was.tells → now.whole →
        WhileMoved (actuators catalogue) (digest_of catalogue) was.first was.second was.stories (OpensTo (actuators catalogue) (digest_of catalogue) state.persistent) now.stories

  abbrev pub OpensToShift : Type 0
  OpensToShift = (HadNoJournal was now before after status × (was.tells → was.lasts → StillStands catalogue was now))
      ⊎ RefusedJournal k catalogue was now before after status ⊎ Opened
