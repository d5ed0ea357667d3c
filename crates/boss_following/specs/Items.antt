-- Source: own.
-- Bytes that are no event, and no state.
use Rattle.std.specs.Prelude.{◌≡◌, ℕ, true, List}
use Rattle.boss_following.specs.declared.stop.Stop.{Stop}
use Rattle.boss_following.specs.declared.stop.Stop.TheVariants.{Gap, BadLine, DiskFault, NoMemory}
use Rattle.boss_model.specs.declared.event.Event.{Event}
use Rattle.boss_model.specs.State.{Persistent}
use Rattle.boss_snapshot.specs.Spells.{SpellsState}
use Rattle.def_bytes.specs.Events.{event}

-- The bytes are no event's, or no memory was to be had.
abbrev pub NoEvent : List ℕ → Stop → Type 0
NoEvent bytes (Gap have found) = ⊥
NoEvent bytes BadLine = (e : Event) → event.fits e ≡ true → bytes ≡ event.text e → ⊥
NoEvent bytes DiskFault = ⊥
NoEvent bytes NoMemory = Unit {0}

-- The bytes are no state's, or no memory was to be had.
abbrev pub NoState : List ℕ → Stop → Type 0
NoState bytes (Gap have found) = ⊥
NoState bytes BadLine = (d : Persistent) → SpellsState 2 d bytes → ⊥
NoState bytes DiskFault = ⊥
NoState bytes NoMemory = Unit {0}
