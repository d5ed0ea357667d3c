use Rattle.std.proofs.Common.{◌*◌, ◌∷◌, take}
use Rattle.std.specs.List.{flat_map}
use Rattle.def_wire.specs.Texts.{quoted}
use Rattle.boss_answers.specs.Room.{PutsAtMost}
use Rattle.boss_answers.proofs.entries.put_other_names.Given as goal

-- the names so far were put at the end
abbrev pub invariant-loop-name : goal.invariant-loop-name
invariant-loop-name l =
    PutsAtMost (67 * l.name-index) l.fn.into l.into (flat_map (λ name. 44 ∷ quoted name) (take l.name-index l.names))
