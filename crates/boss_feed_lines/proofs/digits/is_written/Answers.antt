use Rattle.std.proofs.Common.{sym, ◌∙◌, arith}
use Rattle.std.proofs.lemmas.Slice.Eq.{bytes_eq-Decides}
use Rattle.boss_feed_lines.proofs.digits.is_written.Goals as goal

pub returns-clause-is : goal.returns-clause-is
returns-clause-is c = (
  λ is. sym c.in-Ok.ensures.written ∙ (bytes_eq-Decides _ _).0 (sym c.eq.ensures ∙ is),
  λ is. c.eq.ensures ∙ (bytes_eq-Decides _ _).1 (c.in-Ok.ensures.written ∙ is),
)

pub returns-clause-bytes : goal.returns-clause-bytes
returns-clause-bytes c = λ i. let small = c.type_inv.bytes i in omega arith
