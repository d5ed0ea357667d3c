use Rattle.std.proofs.Common.{◌≡◌, ◌<◌, length, sym, ◌∙◌, ap, arith}
use Rattle.boss_model.specs.Settle.{is_retried, retried}
use Rattle.boss_marks.specs.Marks.{retried_at}
use Rattle.boss_marks.proofs.Early.{none-retried}
use Rattle.boss_marks.proofs.Rounds.{turned-none, turned_below-none, turned_below-more}
use Rattle.boss_marks.proofs.marks.Marks.retry_due.Goals as goal

pub loop-point-init : goal.loop-point-init
loop-point-init c = sym (turned_below-none (is_retried c.args.n) retried c.args.self.now)

pub loop-point-preserved : goal.loop-point-preserved
loop-point-preserved c =
    let all : length c.self.inside.proxies.items ≡ length c.args.self.now.proxies = ap (λ marks. length marks.proxies) c.self.view_is in
    let more : c.loop-point.point < length c.args.self.now.proxies = omega arith in
    c.retry_if_due.ensures
    ∙ (ap (λ marks. retried_at c.loop-point.point c.args.n marks) c.loop-point.invariant
    ∙ turned_below-more (is_retried c.args.n) retried c.loop-point.point c.args.self.now more)

pub returns-then-n-self : goal.returns-then-n-self
returns-then-n-self c = rw (← c.self.view_is) (sym (turned-none (is_retried c.args.n) retried (record { drivers = c.self.inside.wants.drivers; proxies = c.self.inside.proxies.items; wants = c.self.inside.wants.points })
    (none-retried c.args.n c.self.inside.next_retry c.self.inside.proxies.items c.if-n-self.true c.self.invariant.early)))
