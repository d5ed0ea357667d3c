use Rattle.std.proofs.Common.{◌≡◌, ◌∙◌, ℕ, ◌+◌, List, ◌++◌, ap, arith}
use Rattle.boss_model.specs.declared.state.Pending.{Pending}
use Rattle.boss_slots.specs.Slots.{row}
use Rattle.boss_slots.specs.Tables.{pending_at}
use Rattle.boss_holdings.proofs.Listed.{first-listed, next-listed}
use Rattle.boss_holdings.proofs.listing.all_pending.Goals as goal

pub loop-point-init : goal.loop-point-init
loop-point-init c = c.in_ok-pending.ensures.items ∙ first-listed (row (pending_at c.args.tables.now)) 0

pub loop-point-preserved : goal.loop-point-preserved
loop-point-preserved c =
    let here : ℕ → List Pending = row (pending_at c.args.tables.now) in
    let point = c.loop-point.point in
    let same : point ≡ 0 + point = omega arith in
    c.in_ok-add_reversions.ensures ∙ ap (λ p. c.loop-point.pending.items ++ here p) same ∙ ap (λ xs. xs ++ here (0 + point)) c.loop-point.invariant ∙ next-listed here 0 point
