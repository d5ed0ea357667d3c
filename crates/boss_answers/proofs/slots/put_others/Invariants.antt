use Rattle.std.proofs.Common.{◌*◌, ◌∷◌, take}
use Rattle.std.specs.List.{flat_map}
use Rattle.def_wire.specs.Texts.{slot_text}
use Rattle.boss_answers.specs.Room.{PutsAtMost}
use Rattle.boss_answers.proofs.slots.put_others.Given as goal

-- the slots so far were put at the end
abbrev pub invariant-loop-slot : goal.invariant-loop-slot
invariant-loop-slot l =
    PutsAtMost (113 * l.slot-index) l.fn.into l.into (flat_map (λ slot. 44 ∷ slot_text slot) (take l.slot-index l.slots))
