use Rattle.std.proofs.Common.{◌∙◌, sym}
use Rattle.def_seal.specs.Seals.{has_sums, sum_of}
use Rattle.def_seal.proofs.Seals.{length-sum_of}
use Rattle.boss_feeding.proofs.FirstRecords.{no_sum, cut_sum}
use Rattle.boss_feeding.proofs.logs.without_sum.Goals as goal

pub returns-then-not-has_sums-clause-text : goal.returns-then-not-has_sums-clause-text
returns-then-not-has_sums-clause-text c seed place text is =
    no_sum (has_sums c.args.version) c.args.bytes.now text (sum_of seed place text) (sym c.has_sums.ensures ∙ c.if-not-has_sums.true) is

pub returns-clause-text : goal.returns-clause-text
returns-clause-text c seed place text is =
    cut_sum (has_sums c.args.version) c.args.bytes.now text (sum_of seed place text) c.saturating_sub.result (length-sum_of seed place text)
    (sym c.has_sums.ensures ∙ c.if-not-has_sums.false) c.saturating_sub.ensures is
