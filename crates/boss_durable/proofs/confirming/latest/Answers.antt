use Rattle.std.proofs.Common.{◌≡◌, ℕ, suc, ◌+◌, take, take_all, max, ap, sym, ◌∙◌, arith}
use Rattle.boss_durable.specs.Confirmed.{latest}
use Rattle.boss_durable.proofs.Askings.{latest_more}
use Rattle.boss_durable.proofs.confirming.latest.Goals as goal

pub loop-call-preserved : goal.loop-call-preserved
loop-call-preserved c =
    let next : suc c.loop-call.call-index ≡ c.loop-call.call-index + 1 = omega arith in
    let more = latest_more c.args.commands.now c.loop-call.call-index c.call-item.result c.loop-call-test.true c.call-item.is in
    c.max-most.ensures ∙ ap (max c.call-item.result.1) c.loop-call.invariant ∙ sym more ∙ ap (λ (n : ℕ). latest (take n c.args.commands.now)) next

pub returns : goal.returns
returns c = c.loop-call.invariant ∙ ap latest (take_all c.loop-call.call-index c.args.commands.now (omega (arith, c.loop-call-test.false)))
