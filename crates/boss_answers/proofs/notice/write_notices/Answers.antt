use Rattle.std.proofs.Common.{◌≡◌, ◌∷◌, length, ap, arith}
use Rattle.def_wire.specs.Texts.{notice_text}
use Rattle.boss_answers.proofs.Listing.{listed-cons}
use Rattle.boss_answers.proofs.Puts.{puts_both, puts_within}
use Rattle.boss_answers.proofs.notice.write_notices.Goals as goal

pub returns-in-Some : goal.returns-in-Some
returns-in-Some c =
    let is : c.args.notices.now ≡ c.in-Some.first.now ∷ c.in-Some.others.now = c.in-Some.ensures.cases.0 in
    let few = c.requires.tellable.0 in
    let count = ap length is in
    rw (is, listed-cons (notice_text c.args.catalogue.now) c.in-Some.first.now c.in-Some.others.now)
    (puts_within (puts_both c.put_notice.ensures c.put_others.ensures) (omega arith))
