use Rattle.std.proofs.Common.{◌*◌, ◌∷◌, take}
use Rattle.std.specs.List.{flat_map}
use Rattle.def_wire.specs.Texts.{notice_text}
use Rattle.boss_answers.specs.Room.{PutsAtMost}
use Rattle.boss_answers.proofs.notice.put_others.Given as goal

-- the notices so far were put at the end
abbrev pub invariant-loop-notice : goal.invariant-loop-notice
invariant-loop-notice l =
    PutsAtMost (257 * l.notice-index) l.fn.into l.into (flat_map (λ notice. 44 ∷ notice_text l.catalogue notice) (take l.notice-index l.notices))
