-- Source: own.
-- The notices that a process was sent, and those that an answer has.
use Rattle.std.specs.Prelude.{◌≡◌, ℕ, ◌+◌, ◌≤◌, ◌<◌, Bool, true, List, []}
use Rattle.std.specs.List.{flat_map}
use Rattle.std.specs.Option.{option_map_or}
use Rattle.boss_model.specs.declared.answer.Answer.{Answer}
use Rattle.boss_model.specs.declared.answer.Answer.TheVariants as answer
use Rattle.boss_model.specs.declared.notice.Notice.{Notice}
use Rattle.boss_model.specs.Catalogue.{Catalogue}
use Rattle.boss_model.specs.Processes.{process_named}
use Rattle.boss_model.specs.Queries.{named}
use Rattle.boss_model.specs.State.{State}
use Rattle.def_wire.specs.Texts.{line_of, notice_text}

-- each notice is a line
abbrev pub note_line : Catalogue → Notice → List ℕ
note_line catalogue notice = line_of (notice_text catalogue notice)

abbrev pub notes : Catalogue → Answer → List ℕ
notes catalogue (answer.Notices first next list) = flat_map (note_line catalogue) list
notes catalogue other = []

-- how many the process of this name was sent, none where there is no such process
abbrev pub sent : List ℕ → State → ℕ
sent name s = option_map_or (λ process. process.count) (named s.persistent.processes (process_named s.persistent.processes name)) 0

-- From a number on it is asked again from `next`, where so many were sent before and so many are sent by now: up to the next
-- one to come, and never back, unless it was asked from beyond that
pub record GoesOn (from next : ℕ) (some : Bool) (before now : ℕ) : Type 0 where
  pub first : 1 ≤ next
  pub within : next ≤ now + 1
  pub rises : before ≤ now
  pub on : from ≤ before + 1 → from ≤ next
  pub more : from ≤ before + 1 → some ≡ true → from < next
