-- Source: own.
-- One history of events from the first state on, and journals that are of it.
use Rattle.std.specs.Prelude.{◌≡◌, ℕ, ◌-◌, ◌≤◌, nat_le, ◌==◌, true, if◌then◌else◌, List, [], ◌∷◌, length, take, drop, Some}
use Rattle.std.specs.List.{AllByRecursion}
use Rattle.boss_model.specs.declared.event.Event.{Event}
use Rattle.boss_model.specs.declared.state.Actuator.{Actuator}
use Rattle.boss_model.specs.Limits.{last_number}
use Rattle.boss_model.specs.Run.{replay_all}
use Rattle.boss_model.specs.Sound.{IsSoundPersistent}
use Rattle.boss_model.specs.State.{Persistent, first_persistent}
use Rattle.def_bytes.specs.Events.{event}
use Rattle.def_feed.specs.Items.{Item, StateLine, PartLine, EventLine}

-- the state after the first events of a history, so many
pub record IsAfter (plant : List Actuator) (history : List Event) (count : ℕ) (d : Persistent) : Type 0 where
  pub within : count ≤ length history
  pub leads : replay_all plant first_persistent (take count history) ≡ Some d

-- events that have a spelling and lead to some state
pub record IsHistory (plant : List Actuator) (history : List Event) : Type 0 where
  pub end : Persistent
  pub leads : replay_all plant first_persistent history ≡ Some end
  pub fitting : AllByRecursion (λ e. event.fits e ≡ true) history
  pub few : length history ≤ last_number

-- A pair of files is of a history: it stands for the state after so many of its events, and for the events that are next.
pub record IsOf (plant : List Actuator) (history : List Event) (base : Persistent) (before : ℕ) (events : List Event) : Type 0 where
  pub after : IsAfter plant history before base
  pub sound : IsSoundPersistent plant base
  pub next : events ≡ take (length events) (drop before history)

-- The last number that was wholly read, where `last` was it before and so many bytes are due of the state of this number: an
-- event is whole with its line, and a state with the last of its bytes.
abbrev pub whole_since : ℕ → ℕ → ℕ → List Item → ℕ
whole_since last number due [] = last
whole_since last number due (StateLine many size ∷ items) = if size == 0 then whole_since many many 0 items else whole_since last many size items
whole_since last number due (PartLine bytes ∷ items) =
    if nat_le due (length bytes) then whole_since number number 0 items else whole_since last number (due - length bytes) items
whole_since last number due (EventLine many bytes ∷ items) = whole_since many many 0 items

-- 0 where none was
abbrev pub last_whole : List Item → ℕ
last_whole items = whole_since 0 0 0 items
