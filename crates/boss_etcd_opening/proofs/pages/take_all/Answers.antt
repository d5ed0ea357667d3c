use Rattle.std.proofs.Common.{subst}
use Rattle.json.specs.Value.{value_view}
use Rattle.boss_etcd_opening.specs.Answers.{IsPage}
use Rattle.boss_etcd_opening.proofs.InOrder.{pages_on}
use Rattle.boss_etcd_opening.proofs.pages.take_all.Goals as goal

pub loop-at-preserved : goal.loop-at-preserved
loop-at-preserved c =
    pages_on (λ page. value_view page) c.args.name.now c.args.held.now.items c.loop-at.held.items c.take_page.new.held.items c.args.pages.now
    c.loop-at.at c.index-pages-at.result c.loop-at-test.true c.loop-at.invariant
    (subst (λ page. IsPage c.args.name.now (value_view page) c.loop-at.held.items c.take_page.new.held.items) c.index-pages-at.is
    (c.in_ok-take_page.ensures c.if-not-branch.false))
