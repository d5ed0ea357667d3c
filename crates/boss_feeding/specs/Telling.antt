-- Source: own.
-- What is said of lines that are told to a sink.
use Rattle.std.specs.Prelude.{◌≡◌, ℕ, true, List, Result, Ok, Err}
use Rattle.std.specs.List.{AllByRecursion}
use Rattle.boss_feeding.specs.declared.untold.Untold.{Untold}
use Rattle.boss_feeding.specs.declared.untold.Untold.TheVariants.{WriteFault, NoMemory}
use Rattle.boss_model.specs.declared.event.Event.{Event}
use Rattle.boss_outside.specs.Counts.{Rose}
use Rattle.def_bytes.specs.Events.{event}

-- events that have a spelling
abbrev pub AreSpelled : List Event → Type 0
AreSpelled events = AllByRecursion (λ e. event.fits e ≡ true) events

-- the sink is told to have failed exactly where its count rose
abbrev pub TellCause : {T : Type 0} → ℕ → ℕ → Result T Untold → Type 0
TellCause before now (Ok x) = now ≡ before
TellCause before now (Err WriteFault) = Rose before now
TellCause before now (Err NoMemory) = now ≡ before
