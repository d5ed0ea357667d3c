use Rattle.std.proofs.Common.{◌≡◌, ◌<◌, length, refl, sym, ◌∙◌, arith}
use Rattle.std.proofs.lemmas.Bool.{eqb-true}
use Rattle.boss_stages.specs.Entries.{entry_number}
use Rattle.boss_stages.proofs.Order.{position-read}
use Rattle.boss_stages.proofs.list.stands_at.Goals as goal

pub returns-in-Some : goal.returns-in-Some
returns-in-Some c same =
    let entries = c.args.entries.now.items in
    let inside : c.args.place < length entries = omega (arith, c.in-Some.ensures.variant.0 refl) in
    let own : entry_number c.in-Some.entry.now ≡ c.args.txn = sym c.number.ensures ∙ eqb-true c.number.result c.txn.inside.0 same ∙ c.txn.view_is in
    (inside, position-read entries c.requires c.args.txn c.args.place c.in-Some.entry.now inside c.in-Some.ensures.lookup own)
