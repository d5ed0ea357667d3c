-- Source: own.
-- What is told of the next record of a log.
use Rattle.std.specs.Prelude.{◌≡◌, ℕ, ◌+◌, List, [], ◌++◌, length, Option, Some, None, Result, Ok, Err}
use Rattle.boss_feeding.specs.declared.fault.FeedFault.{FeedFault}
use Rattle.boss_feeding.specs.Held.{HasLog}
use Rattle.boss_feeding.specs.Lines.{lines_text}
use Rattle.boss_model.specs.declared.event.Event.{Event}
use Rattle.boss_outside.specs.Streams.{TakesFront}
use Rattle.def_feed.specs.Feeds.{event_items}

-- Some of the events are told, where so many were before them; and the others stand from a gate on.
pub record TellsSome (from number : ℕ) (events : List Event) (bytes old new : List ℕ) (place more : ℕ) : Type 0 where
  pub some : List Event
  pub left : List Event
  pub are : events ≡ some ++ left
  pub log : HasLog place left bytes
  pub many : more ≡ number + length some
  pub told : new ≡ old ++ lines_text (event_items from (number + 1) some)

-- some, or none where none is left, or a front of them all
abbrev pub TellsNext : ℕ → ℕ → List Event → List ℕ → List ℕ → List ℕ → ℕ → Result (Option ℕ) FeedFault → Type 0
TellsNext from number events bytes old new place (Ok None) = (events ≡ []) × (new ≡ old)
TellsNext from number events bytes old new place (Ok (Some more)) = TellsSome from number events bytes old new place more
TellsNext from number events bytes old new place (Err fault) = TakesFront old new (lines_text (event_items from (number + 1) events))
