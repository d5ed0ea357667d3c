use Rattle.std.proofs.Common.{◌≡◌, ◌+◌, length, filter, sym, ap, ◌∙◌, arith}
use Rattle.boss_model.specs.Ends.{is_owned_by}
use Rattle.boss_slots.specs.Slots.{gather, row}
use Rattle.boss_slots.specs.Tables.{lease_at}
use Rattle.boss_holdings.proofs.Counted.{counted-first, counted-next}
use Rattle.boss_holdings.proofs.counting.count_owned.Goals as goal

pub loop-point-init : goal.loop-point-init
loop-point-init c = record {
  counted = counted-first (is_owned_by c.args.owner) (row (lease_at c.args.tables.now)) 0;
  few = omega arith;
}

pub loop-point-preserved : goal.loop-point-preserved
loop-point-preserved c =
    let test = is_owned_by c.args.owner in
    let h = row (lease_at c.args.tables.now) in
    let point = c.loop-point.point in
    let same : 0 + point ≡ point = omega arith in
    let here : c.count_on-count.result ≡ length (filter test (h (0 + point))) = c.count_on-count.ensures.count ∙ ap (λ p. length (filter test (h p))) (sym same) in
    let next : length (filter test (gather h 0 (point + 1))) ≡ length (filter test (gather h 0 point)) + length (filter test (h (0 + point))) = counted-next test h 0 point in
    record {
      counted = omega (arith, c.loop-point.invariant.counted, here, next);
      few = omega (arith, c.loop-point.invariant.few, c.count_on-count.ensures.few);
    }
