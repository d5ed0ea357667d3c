use Rattle.std.proofs.Common.{◌≡◌, map, ap, ◌∙◌, arith}
use Rattle.std.proofs.lemmas.List.{take_all, length-map}
use Rattle.boss_stages.specs.Stages.{live_part, write_slot}
use Rattle.boss_stages.proofs.Parts.{live-live_part}
use Rattle.boss_stages.proofs.transaction.Transaction.of_writes.Goals as goal

pub invariant_of-result : goal.invariant_of-result
invariant_of-result c =
    let all : c.loop-write.parts.items ≡ map live_part (map write_slot c.args.writes.now) =
    c.loop-write.invariant.parts ∙ ap (λ writes. map live_part (map write_slot writes)) (take_all c.loop-write.write-index c.args.writes.now c.loop-write-test.false) in
    rw (c.in_ok-new.ensures.ok, all, live-live_part, length-map c.args.writes.now write_slot, c.in_ok-with_capacity.ensures.items) (omega (arith, c.in_ok-with_capacity.ensures.capacity))
