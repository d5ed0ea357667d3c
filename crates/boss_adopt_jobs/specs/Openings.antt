-- Source: own.
-- What is said on the way of a journal that is not new.
use Rattle.std.specs.Prelude.{◌⊎◌, ℕ}
use Rattle.boss_model.specs.Catalogue.{Catalogue, actuators}
use Rattle.boss_model.specs.State.{State}
use Rattle.boss_outside.specs.declared.sink.Sink as sink
use Rattle.boss_opening.specs.Opens.{digest_of, OpenedAt}
use Rattle.boss_jobs.specs.Crashes.{WhileMoved}
use Rattle.boss_jobs.specs.Journals.{HadNoJournal, Pair, RefusedJournal, StillStands}
use Rattle.boss_adopt_jobs.specs.Adoptions.{ComesTo, OpensToEither}

module _ {K : Type 0} (k : sink.Ghosts K) (old new : Catalogue) (was now : Pair) (before after : K) (status : ℕ) where
  -- It was opened with the old catalogue at the state that its bytes stand for.
  pub record Opened : Type 0 where
    pub state : State
    pub number : ℕ
    pub opened : was.tells → OpenedAt (actuators old) (digest_of old) was.first was.second state number
    pub comes : ComesTo k old new state.persistent number was now before after status
    pub images : was.tells → now.whole → WhileMoved (actuators old) (digest_of old) was.first was.second was.stories (OpensToEither old new state.persistent) now.stories

  abbrev pub OpensToAdopt : Type 0
  OpensToAdopt = (HadNoJournal was now before after status × (was.tells → was.lasts → StillStands old was now))
      ⊎ RefusedJournal k old was now before after status ⊎ Opened
