use Rattle.std.proofs.Common.{◌≡◌, map, ap, ◌∙◌, arith}
use Rattle.std.proofs.lemmas.List.{take_all}
use Rattle.boss_stages.specs.Stages.{live_part}
use Rattle.boss_stages.proofs.Parts.{live-live_part}
use Rattle.boss_stages.proofs.transaction.Transaction.new.Goals as goal

pub invariant_of-result : goal.invariant_of-result
invariant_of-result c =
    let all : c.loop-point.parts.items ≡ map live_part c.args.slots.now = c.loop-point.invariant.parts ∙ ap (map live_part) (take_all c.loop-point.point-index c.args.slots.now c.loop-point-test.false) in
    rw (c.in_ok-new.ensures.ok, all, live-live_part, c.in_ok-with_capacity.ensures.items) (omega (arith, c.in_ok-with_capacity.ensures.capacity))
