use Rattle.std.proofs.Common.{◌≡◌, ℕ, suc, ◌+◌, take, take_all, max, ap, sym, ◌∙◌, arith}
use Rattle.boss_durable.specs.Confirmed.{latest, latest_of}
use Rattle.boss_durable.proofs.Askings.{latest_of_more}
use Rattle.boss_durable.proofs.confirming.latest_of.Goals as goal

pub loop-asked-preserved : goal.loop-asked-preserved
loop-asked-preserved c =
    let next : suc c.loop-asked.asked-index ≡ c.loop-asked.asked-index + 1 = omega arith in
    let here : c.latest.result ≡ latest c.asked-item.result.commands = c.latest.ensures ∙ ap latest c.slice.ensures in
    let more = latest_of_more c.args.group.now c.loop-asked.asked-index c.asked-item.result c.loop-asked-test.true c.asked-item.is in
    c.max-most.ensures ∙ (λ i. max (here i) (c.loop-asked.invariant i)) ∙ sym more ∙ ap (λ (n : ℕ). latest_of (take n c.args.group.now)) next

pub returns : goal.returns
returns c = c.loop-asked.invariant ∙ ap latest_of (take_all c.loop-asked.asked-index c.args.group.now (omega (arith, c.loop-asked-test.false)))
