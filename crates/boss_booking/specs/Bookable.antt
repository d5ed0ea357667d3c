-- Source: own.
use Rattle.std.specs.Prelude.{ℕ, ◌<◌, List, length}
use Rattle.std.specs.List.{AllByRecursion}
use Rattle.boss_model.specs.State.{Process, Persistent}
use Rattle.boss_stages.specs.Stages.{Stages}
use Rattle.boss_booking.specs.Books.{Telling}
use Rattle.boss_booking.specs.Gathered.{told_rank, booked_all, AreBooksOf, CanBookAll}
use Rattle.law_due.specs.Telling.{AreApart}

-- it is told to one of so many processes
abbrev pub IsInformed : ℕ → Telling → Type 0
IsInformed count telling = telling.happening.owner < count

-- All that was gathered can be booked, one after another in the order in which it is told: no two of it have one place there, what
-- ends is there to end when its turn comes, and the owners are processes.
pub record IsBookable (stages : Stages) (processes : List Process) (tellings : List Telling) : Type 0 where
  pub apart : AreApart told_rank tellings
  pub there : CanBookAll stages processes tellings
  pub informed : AllByRecursion (IsInformed (length processes)) tellings

-- and then the books are those of `after`
pub record ComesTo (after : Persistent) (stages : Stages) (processes : List Process) (tellings : List Telling) : Type 0 where
  pub bookable : IsBookable stages processes tellings
  pub books : AreBooksOf (booked_all stages processes tellings) after
