use Rattle.std.proofs.Common.{◌≡◌, ◌∷◌, length, ap, arith}
use Rattle.def_wire.specs.Texts.{slot_text}
use Rattle.boss_answers.proofs.Listing.{listed-cons}
use Rattle.boss_answers.proofs.Puts.{puts_both, puts_within}
use Rattle.boss_answers.proofs.slots.write_slots.Goals as goal

pub returns-in-Some : goal.returns-in-Some
returns-in-Some c =
    let is : c.args.slots.now ≡ c.in-Some.first.now ∷ c.in-Some.others.now = c.in-Some.ensures.cases.0 in
    let few = c.requires.few in
    let count = ap length is in
    rw (is, listed-cons slot_text c.in-Some.first.now c.in-Some.others.now)
    (puts_within (puts_both c.put_slot.ensures c.put_others.ensures) (omega arith))
