use Rattle.std.proofs.Common.{ap, sym, ◌∙◌, ◌++◌}
use Rattle.boss_records.proofs.Texts.{fits_at, text_more, writes_more}
use Rattle.boss_records.proofs.written.write_items.Goals as goal

pub write-requires-clause-fits : goal.write-requires-clause-fits
write-requires-clause-fits g c =
    fits_at g.T.Written.view g.T.Written.field.fits c.args.items.now c.loop-item.item-index c.item-item.result c.loop-item-test.true c.item-item.is c.requires.fits

pub loop-item-preserved : goal.loop-item-preserved
loop-item-preserved g c =
    let item = c.item-item.result in
    let fits = fits_at g.T.Written.view g.T.Written.field.fits c.args.items.now c.loop-item.item-index item c.loop-item-test.true c.item-item.is c.requires.fits in
    let text = text_more g.T.Written.view g.T.Written.field.text c.args.items.now c.loop-item.item-index item c.loop-item-test.true c.item-item.is in
    let wrote = writes_more (g.R.Room.bytes c.args.into.now) (g.R.Room.bytes c.loop-item.into) (g.R.Room.bytes c.write.new.into) _ _ c.loop-item.item-index g.T.Written.field.most
    c.loop-item.invariant.0 c.loop-item.invariant.1 c.write.ensures.bytes (g.met.T.Written.is_short.short (g.T.Written.view item) fits) in
    (wrote.bytes ∙ ap (λ t. g.R.Room.bytes c.args.into.now ++ t) (sym text), wrote.short, c.write.ensures.capacity ∙ c.loop-item.invariant.2)
