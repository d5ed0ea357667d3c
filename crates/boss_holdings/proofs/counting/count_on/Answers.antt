use Rattle.std.proofs.Common.{◌≡◌, ℕ, ◌+◌, length, filter, sym, ap, ◌∙◌, arith}
use Rattle.std.specs.Option.{option_to_list}
use Rattle.boss_model.specs.Ends.{is_owned_by}
use Rattle.boss_slots.specs.Slots.{gather}
use Rattle.boss_slots.specs.Tables.{lease_at}
use Rattle.boss_holdings.proofs.Counted.{counted-first, counted-next}
use Rattle.boss_holdings.proofs.counting.count_on.Goals as goal

pub loop-place-init : goal.loop-place-init
loop-place-init c = record {
  counted = counted-first (is_owned_by c.args.owner) (λ priority. option_to_list (lease_at c.args.tables.now c.args.point priority)) 1;
  few = omega arith;
}

pub loop-place-preserved : goal.loop-place-preserved
loop-place-preserved c =
    let test = is_owned_by c.args.owner in
    let h = λ (priority : ℕ). option_to_list (lease_at c.args.tables.now c.args.point priority) in
    let place = c.loop-place.place in
    let level : 1 + place ≡ place + 1 = omega arith in
    let here : c.count_in-count.result ≡ length (filter test (h (1 + place))) = c.count_in-count.ensures.count ∙ ap (λ priority. length (filter test (h priority))) (sym level) in
    let next : length (filter test (gather h 1 (place + 1))) ≡ length (filter test (gather h 1 place)) + length (filter test (h (1 + place))) = counted-next test h 1 place in
    record {
      counted = omega (arith, c.loop-place.invariant.counted, here, next);
      few = omega (arith, c.loop-place.invariant.few, c.count_in-count.ensures.few);
    }
