use Rattle.std.proofs.Common.{◌≡◌, map, take}
use Rattle.boss_model.specs.Seen.{seen_part}
use Rattle.law_adoption.specs.Adopted.{moved_part}
use Rattle.boss_adopting.specs.Places.{places_of}
use Rattle.boss_adopting.proofs.records.moved_parts.Given as goal

abbrev pub invariant-loop-part : goal.invariant-loop-part
invariant-loop-part l = map seen_part l.moved.items ≡ map (moved_part (places_of l.numbering)) (map seen_part (take l.part-index l.parts))
