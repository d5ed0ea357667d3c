-- Source: own.
-- The events of one record.
use Rattle.std.specs.Prelude.{◌≡◌, ℕ, ◌≤◌, true, List, length, flat_map}
use Rattle.std.specs.List.{AllByRecursion}
use Rattle.boss_model.specs.declared.event.Act.{Act}
use Rattle.boss_model.specs.declared.event.Act.TheVariants as act
use Rattle.boss_model.specs.declared.event.Event.{Event}
use Rattle.boss_model.specs.Limits.{most_held}
use Rattle.def_bytes.specs.Events.{event}

abbrev pub batch_text : List Event → List ℕ
batch_text events = flat_map event.text events

-- one to sixteen events that have a spelling
pub record IsBatch (events : List Event) : Type 0 where
  pub some_event : 1 ≤ length events
  pub few : length events ≤ most_held
  pub fitting : AllByRecursion (λ e. event.fits e ≡ true) events

-- a disk of version 1 knows no numbers of requests
abbrev pub act_number : Act → ℕ
act_number (act.Submit owner policy writes seq) = seq
act_number (act.Renew owner txn length points seq) = seq
act_number (act.Cancel owner txn seq) = seq
act_number a = 0

abbrev pub IsOfVersion : ℕ → List Event → Type 0
IsOfVersion version events = version ≡ 1 → AllByRecursion (λ e. act_number e.act ≡ 0) events
