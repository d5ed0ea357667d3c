-- Source: own.
-- An event that an engine does again.
use Rattle.std.specs.Prelude.{◌≡◌, Bool, true, false, List, Some, None, unwrap_or}
use Rattle.boss_engine.specs.Running.{Running}
use Rattle.boss_model.specs.Acts.{replay}
use Rattle.boss_model.specs.declared.event.Event.{Event}
use Rattle.boss_model.specs.declared.state.Actuator.{Actuator}
use Rattle.boss_model.specs.Settle.{opened}
use Rattle.boss_model.specs.State.{Persistent}

-- the engine of a plant that is opened at this
abbrev pub opened_at : List Actuator → Persistent → Running
opened_at plant d = record { plant = plant; state = opened plant d }

-- what an engine's answer says of an event that it was to do again: whether the event is effective
abbrev pub Redoes : Event → Running → Running → Bool → Type 0
Redoes e old new true = (replay old.plant e old.state.persistent ≡ Some new.state.persistent) × (new ≡ opened_at old.plant new.state.persistent)
Redoes e old new false = (replay old.plant e old.state.persistent ≡ None) × (new ≡ old)

-- what an event makes of this, where it makes something of it
abbrev pub after : List Actuator → Event → Persistent → Persistent
after plant e d = unwrap_or (replay plant e d) d
