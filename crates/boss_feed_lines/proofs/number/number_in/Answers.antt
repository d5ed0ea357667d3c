use Rattle.std.proofs.Common.{◌≡◌, true, false, sym, ◌∙◌}
use Rattle.std.proofs.lemmas.Slice.Eq.{bytes_eq-Decides}
use Rattle.boss_feed_lines.proofs.Numerals.{not-parsed, not-written}
use Rattle.boss_feed_lines.proofs.number.number_in.Goals as goal

pub returns-else-eq : goal.returns-else-eq
returns-else-eq c =
    not-written c.args.text.now c.parse.result c.in-Ok.number c.parse.ensures.value.0 c.in-Ok.is
    (λ is.
    let clash : true ≡ false = sym ((bytes_eq-Decides _ _).1 (c.format.ensures.text ∙ is)) ∙ sym c.eq.ensures ∙ c.if-eq.false in
    absurd cc)

pub returns-in-Err : goal.returns-in-Err
returns-in-Err c = not-parsed c.args.text.now c.parse.result c.in-Err.field-0 c.parse.ensures.value.0 c.in-Err.is
