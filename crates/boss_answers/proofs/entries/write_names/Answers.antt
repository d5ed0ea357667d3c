use Rattle.std.proofs.Common.{◌≡◌, ◌∷◌, length, ap, arith}
use Rattle.def_wire.specs.Texts.{quoted}
use Rattle.boss_answers.proofs.Listing.{listed-cons}
use Rattle.boss_answers.proofs.Puts.{puts_both, puts_within}
use Rattle.boss_answers.proofs.entries.write_names.Goals as goal

pub returns-in-Some : goal.returns-in-Some
returns-in-Some c =
    let is : c.args.names.now ≡ c.in-Some.first.now ∷ c.in-Some.others.now = c.in-Some.ensures.cases.0 in
    let few = c.requires.few in
    let count = ap length is in
    rw (is, listed-cons quoted c.in-Some.first.now c.in-Some.others.now)
    (puts_within (puts_both c.write_quoted.ensures c.put_other_names.ensures) (omega arith))
