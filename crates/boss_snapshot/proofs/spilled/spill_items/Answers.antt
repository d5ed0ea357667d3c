use Rattle.std.proofs.Common.{◌∙◌}
use Rattle.boss_records.proofs.Texts.{fits_at, text_more}
use Rattle.boss_snapshot.proofs.Drafts.{then_goes, adds_more}
use Rattle.boss_snapshot.proofs.spilled.spill_items.Goals as goal

pub spill-requires-clause-fits : goal.spill-requires-clause-fits
spill-requires-clause-fits g c =
    fits_at g.T.Spilled.view g.T.Spilled.field.fits c.args.items.now c.loop-item.item-index c.item-item.result c.loop-item-test.true c.item-item.is c.requires.fits

pub returns-in_err-spill-clause-goes : goal.returns-in_err-spill-clause-goes
returns-in_err-spill-clause-goes g c told = then_goes _ _ _ (c.loop-item.invariant.2 told) (c.spill.ensures.goes told)

pub loop-item-preserved : goal.loop-item-preserved
loop-item-preserved g c =
    let text = text_more g.T.Spilled.view g.T.Spilled.field.text c.args.items.now c.loop-item.item-index c.item-item.result c.loop-item-test.true c.item-item.is in (
      λ told. c.in_ok-spill.ensures.placed told,
      λ told. adds_more _ _ _ _ _ _ (c.loop-item.invariant.1 told) (c.in_ok-spill.ensures.text told) text,
      λ told. then_goes _ _ _ (c.loop-item.invariant.2 told) (c.spill.ensures.goes told),
      c.in_ok-spill.ensures.cause.fine ∙ c.loop-item.invariant.3,
    )
