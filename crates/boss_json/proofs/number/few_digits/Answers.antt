use Rattle.std.proofs.Common.{◌+◌, ◌-◌, arith}
use Rattle.std.proofs.lemmas.Grind.{common_steps}
use Rattle.boss_json.proofs.Digits.{one_digit_more, few_have_room}
use Rattle.boss_json.proofs.number.few_digits.Goals as goal

pub loop-byte-preserved : goal.loop-byte-preserved
loop-byte-preserved c =
    let l = c.loop-byte in
    let more = one_digit_more l.number (c.from.result - 48) l.byte-index l.invariant.few (omega (arith, c.from.ensures, c.if-byte-gt57.false)) in
    let fits = few_have_room _ (l.byte-index + 1) more (omega (arith, c.if-bytes-gt-MOST_DIGITS.false)) in
    record {
      digits = grind (arith, common_steps);
      value = grind (arith, common_steps);
      few = omega (arith, more, c.from.ensures, c.if-byte-lt48.false);
      fits = omega (arith, fits, c.from.ensures, c.if-byte-lt48.false);
    }
