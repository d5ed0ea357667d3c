use Rattle.std.proofs.Common.{◌≡◌, false, length, drop, ap, refl, sym, ◌∙◌, arith}
use Rattle.boss_stages.specs.Entries.{is_kept}
use Rattle.boss_stages.proofs.Order.{passed, few-kept}
use Rattle.boss_stages.proofs.list.TransactionList.drop_passed.Goals as goal

pub overflow_sub-self : goal.overflow_sub-self
overflow_sub-self c =
    let entries = c.self.inside.entries.items in
    let gone : is_kept c.in-Some-Forgotten.field-0.now ≡ false = ap is_kept c.in-Some-Forgotten.field-0-is in
    let left = passed entries c.in-Some-Forgotten.field-0.now (omega (arith, c.in-Some-Forgotten.ensures.variant.0 refl)) (ap is_kept (sym c.in-Some-Forgotten.ensures.lookup) ∙ gone) c.self.invariant.0 in
    omega (arith, left.2, ap length left.1, few-kept (drop 1 entries), c.self.invariant.1)

pub invariant_of-self : goal.invariant_of-self
invariant_of-self c =
    let entries = c.self.inside.entries.items in
    let gone : is_kept c.in-Some-Forgotten.field-0.now ≡ false = ap is_kept c.in-Some-Forgotten.field-0-is in
    let left = passed entries c.in-Some-Forgotten.field-0.now (omega (arith, c.in-Some-Forgotten.ensures.variant.0 refl)) (ap is_kept (sym c.in-Some-Forgotten.ensures.lookup) ∙ gone) c.self.invariant.0 in
    rw c.pop_front.ensures.rest (left.0, omega (arith, left.2, ap length left.1, few-kept (drop 1 entries), c.self.invariant.1), omega (arith, c.self.invariant.2))
