use Rattle.std.proofs.Common.{◌≡◌, map, ap, ◌∙◌}
use Rattle.std.proofs.lemmas.Result.{IfOk-weaker}
use Rattle.boss_model.specs.Submit.{begun, part_of}
use Rattle.boss_stages.specs.Stages.{HasLevel, Tracked, live_part, write_slot, begun as kept_begun}
use Rattle.boss_booking.proofs.Points.{map-map}
use Rattle.law_time.proofs.Orders.{each-map}
use Rattle.boss_engine.specs.Writing.{IsWritable}
use Rattle.boss_engine.proofs.preparing.begun.Goals as goal

pub of_writes-requires : goal.of_writes-requires
of_writes-requires c = each-map IsWritable HasLevel (λ write is. is.0) c.args.writes.now c.requires

pub returns-clause-record : goal.returns-clause-record
returns-clause-record c =
    let owner = c.args.owner in
    let policy = c.args.policy in
    let txn = c.args.txn in
    let writes = c.args.writes.now in
    let parts : map live_part (map write_slot writes) ≡ map part_of writes = map-map live_part write_slot writes in
    IfOk-weaker c.of_writes.result (λ (kept : Tracked). kept ≡ kept_begun txn owner policy (map write_slot writes)) (λ (kept : Tracked). kept.transaction ≡ begun owner policy txn writes)
    (λ kept is. ap (λ k. k.transaction) is ∙ (λ i. record { txn = txn; owner = owner; policy = policy; parts = parts i }))
    c.of_writes.ensures
