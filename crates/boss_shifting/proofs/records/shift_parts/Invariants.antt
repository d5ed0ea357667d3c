use Rattle.std.proofs.Common.{◌≡◌, ◌++◌, map, take, drop}
use Rattle.boss_model.specs.Seen.{seen_part}
use Rattle.law_shift.specs.Shifted.{shifted_part}
use Rattle.boss_shifting.proofs.records.shift_parts.Given as goal

abbrev pub invariant-loop-part : goal.invariant-loop-part
invariant-loop-part l = map seen_part l.parts ≡ map (shifted_part l.by) (take l.part-index (map seen_part l.initial.parts)) ++ drop l.part-index (map seen_part l.initial.parts)
