use Rattle.std.proofs.Common.{◌≡◌, ◌==◌, false, [], refl, arith}
use Rattle.std.proofs.lemmas.Bool.Decides.{nat_tests}
use Rattle.boss_points.specs.Seen.{all_seen}
use Rattle.def_wire.specs.Texts.{digest_text, drivers_text, list_text, page}
use Rattle.boss_answers.proofs.Later.{without_drivers}
use Rattle.boss_answers.proofs.entries.put_points.Goals as goal

pub put_first-requires-clause-few : goal.put_first-requires-clause-few
put_first-requires-clause-few c = omega (arith, c.page-points.ensures.few, c.page_size.ensures.half c.if-from-eq0.true)

pub returns-then-from-eq0 : goal.returns-then-from-eq0
returns-then-from-eq0 c =
    let points = rw (c.page_size.ensures.size, c.if-from-eq0.true) at c.page-points.ensures.points in
    rw (c.if-from-eq0.true, ← points) c.put_first.ensures

pub returns-else-from-eq0 : goal.returns-else-from-eq0
returns-else-from-eq0 c =
    let catalogue = c.args.catalogue.now in
    let from = c.args.from in
    let later : (from == 0) ≡ false = grind (arith, nat_tests, c.if-from-eq0.false) in
    let none : drivers_text from catalogue.drivers ≡ [] = rw later refl in
    let points : all_seen c.page-points.result.now ≡ page from c.args.most catalogue = rw c.page_size.ensures.size at c.page-points.ensures.points in
    without_drivers 32000 c.args.into.now c.put_later.new.into (digest_text catalogue) (drivers_text from catalogue.drivers)
    (list_text from catalogue (page from c.args.most catalogue)) none (rw points at c.put_later.ensures)
