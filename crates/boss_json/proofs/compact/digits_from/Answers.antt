use Rattle.std.proofs.Common.{◌≡◌, get_or, inl, inr, subst, arith}
use Rattle.std.proofs.lemmas.Bool.{cases_lt}
use Rattle.std.specs.Int.{IsInRange}
use Rattle.boss_json.proofs.Spelled.{digit_by_value, one_digit_on, value_has_room}
use Rattle.boss_json.proofs.compact.digits_from.Goals as goal

pub overflow_mul-number : goal.overflow_mul-number
overflow_mul-number c =
    let l = c.loop-end in
    let few = value_has_room c.args.text.now c.args.start l.end l.invariant.digits (omega (arith, c.min-most.ensures)) (omega (arith, c.min-most.ensures, c.loop-end-test.true)) in
    omega (arith, few, l.invariant.value)

pub overflow_add-number : goal.overflow_add-number
overflow_add-number c =
    let l = c.loop-end in
    let few = value_has_room c.args.text.now c.args.start l.end l.invariant.digits (omega (arith, c.min-most.ensures)) (omega (arith, c.min-most.ensures, c.loop-end-test.true)) in
    omega (arith, few, l.invariant.value, c.from.ensures, c.if-digit-gt9.false)

pub loop-end-preserved : goal.loop-end-preserved
loop-end-preserved c =
    let d = c.args.text.now in
    let l = c.loop-end in
    let digit = digit_by_value (get_or d l.end 0) c.from.result (omega (arith, c.type_inv.text l.end)) c.from.ensures (omega (arith, c.from.ensures, c.if-digit-gt9.false)) in
    record {
      after = omega arith;
      within = omega arith;
      digits = λ k after before. elim (cases_lt k l.end) [
        | inl early ↦ l.invariant.digits k after early
        | inr late ↦ let here : l.end ≡ k = omega (arith, before, late) in subst (λ i. IsInRange 48 57 (get_or d i 0)) here digit.0
      ];
      value = omega (arith, one_digit_on d c.args.start l.end (omega arith) (omega (arith, c.min-most.ensures, c.loop-end-test.true)) digit.0, digit.1, l.invariant.value);
    }
