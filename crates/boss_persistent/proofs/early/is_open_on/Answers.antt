use Rattle.std.proofs.Common.{◌≡◌, ◌==◌, ◌≤◌, true, false, length, sym, ◌∙◌, ap, arith}
use Rattle.std.specs.Option.{option_map_or}
use Rattle.boss_model.specs.Records.{Part}
use Rattle.law_effects.specs.Early.{open_still}
use Rattle.boss_persistent.specs.Lasting.{persistent_of}
use Rattle.boss_persistent.proofs.Firsts.{find-here, find-none}
use Rattle.boss_persistent.proofs.early.is_open_on.Goals as goal

pub returns-then-eq : goal.returns-then-eq
returns-then-eq c =
    let own : c.part.inside.point ≡ c.part-item.result.point = ap (λ p. p.point) c.part.view_is in
    let same : (c.part-item.result.point == c.args.point) ≡ true = rw (← own) (sym c.eq.ensures ∙ c.if-eq.true) in
    let found = find-here (λ (part : Part). part.point == c.args.point) c.args.parts.now c.loop-part.part-index c.part-item.result
    c.loop-part-test.true c.part-item.is same c.loop-part.invariant in
    c.is_open_still.ensures ∙ sym (ap (λ found. option_map_or (open_still c.args.n (persistent_of c.args.lasting.now).leases) found false) found)

pub returns : goal.returns
returns c =
    let past : length c.args.parts.now ≤ c.loop-part.part-index = omega arith in
    let none = find-none (λ (part : Part). part.point == c.args.point) c.args.parts.now c.loop-part.part-index past c.loop-part.invariant in
    sym (ap (λ found. option_map_or (open_still c.args.n (persistent_of c.args.lasting.now).leases) found false) none)
