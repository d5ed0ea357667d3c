use Rattle.std.proofs.Common.{◌≡◌, ◌∙◌, None, Option, ℕ, ap, arith, refl, replicate, rules}
use Rattle.std.proofs.lemmas.List.{length-replicate}
use Rattle.boss_timers.proofs.Kept.{IsKept-none, times-none}
use Rattle.boss_timers.proofs.timers.Timers.new.Goals as goal

pub invariant_of-result : goal.invariant_of-result
invariant_of-result c =
    let places : c.in_ok-vec.field-0.items ≡ replicate c.args.capacity None = c.in_ok-vec.ensures.items_if_clones_equal (λ y same. search rules) ∙ ap (replicate c.args.capacity) c.nowhere.ensures in
    rw (c.in_ok-with_capacity.ensures.items, c.in_ok-with_capacity-2.ensures.items, places)
    (record {
      pairs = refl;
      kept = IsKept-none c.args.capacity _ (omega (arith, c.in_ok-with_capacity.ensures.exact)) (omega arith);
      room = omega (arith, length-replicate {A = Option ℕ} c.args.capacity None, c.in_ok-with_capacity-2.ensures.exact);
    })

pub returns : goal.returns
returns c =
    let places : c.in_ok-vec.field-0.items ≡ replicate c.args.capacity None = c.in_ok-vec.ensures.items_if_clones_equal (λ y same. search rules) ∙ ap (replicate c.args.capacity) c.nowhere.ensures in
    rw places (times-none c.args.capacity _)
