-- Source: own.
-- The feed of a pair of files: the state that it stands on, where that is asked for, and then its events.
use Rattle.std.specs.Prelude.{ℕ, zero, suc, ◌+◌, nat_lt, if◌then◌else◌, List, [], ◌∷◌, ◌++◌, length, take, drop, map, flat_map}
use Rattle.boss_model.specs.declared.event.Event.{Event}
use Rattle.boss_model.specs.State.{Persistent}
use Rattle.def_bytes.specs.Events.{event}
use Rattle.def_bytes.specs.States.{state}
use Rattle.def_feed.specs.Items.{Item, StateLine, PartLine, EventLine, item_text}

-- bytes of a state in one line; the last one has the rest
abbrev pub longest_part : ℕ
longest_part = 16384

-- bytes in pieces; as many turns as there are bytes are enough
abbrev pub pieces : ℕ → List ℕ → List (List ℕ)
pieces turns [] = []
pieces zero (byte ∷ bytes) = []
pieces (suc turns) (byte ∷ bytes) = take longest_part (byte ∷ bytes) ∷ pieces turns (drop longest_part (byte ∷ bytes))

-- a state after so many events, by its bytes
abbrev pub state_items : ℕ → List ℕ → List Item
state_items number text = StateLine number (length text) ∷ map PartLine (pieces (length text) text)

-- the events with a number above `from`; the first of these has this number
abbrev pub event_items : ℕ → ℕ → List Event → List Item
event_items from number [] = []
event_items from number (e ∷ events) =
    if nat_lt from number then EventLine number (event.text e) ∷ event_items from (number + 1) events else event_items from (number + 1) events

-- The feed above `from` of a pair that stands for a state after so many events, and the events since. The state is told, as
-- version 2 spells it, where its number is above `from` too.
abbrev pub feed_items : ℕ → Persistent → ℕ → List Event → List Item
feed_items from base before events =
    (if nat_lt from before then state_items before ((state 2).text base) else []) ++ event_items from (before + 1) events

abbrev pub feed_lines : ℕ → Persistent → ℕ → List Event → List (List ℕ)
feed_lines from base before events = map item_text (feed_items from base before events)

-- each line with its end
abbrev pub feed_text : ℕ → Persistent → ℕ → List Event → List ℕ
feed_text from base before events = flat_map (λ line. line ++ 10 ∷ []) (feed_lines from base before events)
