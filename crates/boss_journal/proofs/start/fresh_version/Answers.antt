use Rattle.std.proofs.Common.{◌∙◌, sym}
use Rattle.boss_journal.proofs.FirstBytes.{another_length, another_rest, is_fresh, denied}
use Rattle.boss_journal.proofs.start.fresh_version.Goals as goal

pub returns-then-first-ne42 : goal.returns-then-first-ne42
returns-then-first-ne42 c bytes is v fresh = another_length v c.args.digest.now c.args.first.now bytes is c.if-first-ne42.true c.told-digest fresh

pub returns-then-not-are_same : goal.returns-then-not-are_same
returns-then-not-are_same c bytes is v fresh =
    another_rest v c.args.digest.now c.args.first.now bytes is c.if-first-ne42.false
    (λ same. denied c.are_same.result c.are_same.ensures.1 c.if-not-are_same.true (same ∙ sym c.fresh_head-rest.ensures)) fresh

pub returns : goal.returns
returns c bytes is =
    is_fresh c.args.digest.now c.args.first.now bytes is c.if-first-ne42.false (c.is_known.ensures.0 c.if-not-is_known.false)
    (c.are_same.ensures.0 c.if-not-are_same.false ∙ c.fresh_head-rest.ensures)
