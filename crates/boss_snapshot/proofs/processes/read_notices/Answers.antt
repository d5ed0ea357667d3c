use Rattle.std.proofs.Common.{◌≡◌, ℕ, ◌+◌, ◌-◌, suc, [], ◌∷◌, ◌++◌, sym, ap, ◌∙◌, arith}
use Rattle.def_bytes.specs.Fields.{items_at}
use Rattle.boss_model.specs.declared.notice.What.{What}
use Rattle.def_bytes.specs.States.{told}
use Rattle.boss_records.proofs.Items.{with_front}
use Rattle.boss_snapshot.specs.Numbered.{numbered}
use Rattle.boss_snapshot.proofs.OfNotices.{notice, notice_more, notices_end}
use Rattle.boss_snapshot.proofs.processes.read_notices.Goals as goal

pub returns-in-Err : goal.returns-in-Err
returns-in-Err c =
    let left = c.args.count - (c.loop-place.place + 1) in
    let one : c.args.count - c.loop-place.place ≡ suc left = omega arith in
    notices_end c.in-Err.unread c.loop-place.notices.items _ c.loop-place.rest.now (c.args.count - c.loop-place.place) left _ c.in-Err.ensures one c.loop-place.invariant

pub loop-place-preserved : goal.loop-place-preserved
loop-place-preserved c =
    let left = c.args.count - (c.loop-place.place + 1) in
    let one : c.args.count - c.loop-place.place ≡ suc left = omega arith in
    let x : ℕ × (ℕ × What) = (c.in-Ok.found.0.at, (c.in-Ok.found.0.txn, c.in-Ok.found.0.what)) in
    let n = c.args.before + 1 + c.loop-place.place in
    let next : c.args.before + 1 + (c.loop-place.place + 1) ≡ n + 1 = omega arith in
    rw (c.in_ok-push.ensures.items, c.from.ensures) (ap (λ k. with_front (c.loop-place.notices.items ++ notice n x ∷ []) (numbered k (items_at told left c.in-Ok.found.1.now))) next
    ∙ sym (notice_more c.loop-place.notices.items n c.loop-place.rest.now c.in-Ok.found.1.now x (c.args.count - c.loop-place.place) left c.in-Ok.ensures one)
    ∙ c.loop-place.invariant)
