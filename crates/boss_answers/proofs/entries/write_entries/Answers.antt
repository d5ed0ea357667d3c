use Rattle.std.proofs.Common.{◌≡◌, ◌∷◌, length, ap, arith}
use Rattle.boss_points.specs.Seen.{seen}
use Rattle.def_wire.specs.Texts.{entry_text}
use Rattle.boss_answers.proofs.Listing.{listed-seen}
use Rattle.boss_answers.proofs.Puts.{puts_both, puts_within}
use Rattle.boss_answers.proofs.entries.write_entries.Goals as goal

pub returns-in-Some : goal.returns-in-Some
returns-in-Some c =
    let is : c.args.points.now ≡ c.in-Some.first.now ∷ c.in-Some.others.now = c.in-Some.ensures.cases.0 in
    let count = ap length is in
    rw (is, listed-seen seen (entry_text c.args.catalogue.now) c.in-Some.first.now c.in-Some.others.now)
    (puts_within (puts_both c.put_entry.ensures c.put_other_entries.ensures) (omega arith))
