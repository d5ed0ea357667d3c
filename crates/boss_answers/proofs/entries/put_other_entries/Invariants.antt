use Rattle.std.proofs.Common.{◌*◌, ◌∷◌, take}
use Rattle.std.specs.List.{flat_map}
use Rattle.boss_points.specs.Seen.{seen}
use Rattle.def_wire.specs.Texts.{entry_text}
use Rattle.boss_answers.specs.Room.{PutsAtMost}
use Rattle.boss_answers.proofs.entries.put_other_entries.Given as goal

-- the points so far were put at the end
abbrev pub invariant-loop-point : goal.invariant-loop-point
invariant-loop-point l =
    PutsAtMost (320 * l.point-index) l.fn.into l.into (flat_map (λ point. 44 ∷ entry_text l.catalogue (seen point)) (take l.point-index l.points))
