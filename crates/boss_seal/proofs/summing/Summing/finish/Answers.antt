use Rattle.std.proofs.Common.{◌++◌, ◌∙◌, ap, take}
use Rattle.std.specs.Int.{w64, to_be_bytes}
use Rattle.def_seal.specs.Seals.{sum_of}
use Rattle.boss_seal.proofs.summing.Summing.finish.Goals as goal

pub returns : goal.returns
unfolding sum_of
returns c seed place bytes held = c.first_eight.ensures ∙ ap (take 8) (c.finalize.ensures (seed ++ (to_be_bytes w64 place ++ bytes)) held)
