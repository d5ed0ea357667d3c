use Rattle.std.proofs.Common.{◌≡◌, ◌==◌, ◌≤◌, true, length, sym, ◌∙◌, ap, arith}
use Rattle.std.specs.Option.{option_and_then}
use Rattle.boss_model.specs.Records.{Part}
use Rattle.boss_persistent.proofs.Firsts.{find-here, find-none}
use Rattle.boss_persistent.proofs.refusals.end_on.Goals as goal

pub returns-then-eq : goal.returns-then-eq
returns-then-eq c =
    let own : c.part.inside.point ≡ c.part-item.result.point = ap (λ p. p.point) c.part.view_is in
    let same : (c.part-item.result.point == c.args.point) ≡ true = rw (← own) (sym c.eq.ensures ∙ c.if-eq.true) in
    let found = find-here (λ (part : Part). part.point == c.args.point) c.args.parts.now c.loop-part.part-index c.part-item.result
    c.loop-part-test.true c.part-item.is same c.loop-part.invariant in
    ap (λ (p : Part). p.end) c.part.view_is ∙ sym (ap (option_and_then (λ p. p.end)) found)

pub returns : goal.returns
returns c =
    let past : length c.args.parts.now ≤ c.loop-part.part-index = omega arith in
    let none = find-none (λ (part : Part). part.point == c.args.point) c.args.parts.now c.loop-part.part-index past c.loop-part.invariant in
    sym (ap (option_and_then (λ p. p.end)) none)
