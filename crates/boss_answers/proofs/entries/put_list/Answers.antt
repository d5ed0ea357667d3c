use Rattle.std.proofs.Common.{◌≡◌, codes, length, arith}
use Rattle.std.proofs.lemmas.List.{length-map}
use Rattle.boss_points.specs.Seen.{seen, all_seen}
use Rattle.boss_answers.proofs.Puts.{puts, puts_both, puts_keyed, puts_within}
use Rattle.boss_answers.proofs.entries.put_list.Goals as goal

pub returns : goal.returns
returns c =
    let same : length (all_seen c.args.points.now) ≡ length c.args.points.now = length-map c.args.points.now seen in
    let count = rw (c.from.ensures, c.count.ensures.count) at c.write_number.ensures in
    let next = puts_keyed (codes ",\"next\":") _ count c.write_number-2.ensures in
    let list = puts_both (puts_both next (puts c.extend.ensures)) c.write_entries.ensures in
    rw same (puts_within (puts_both list (puts c.extend-2.ensures)) (omega arith))
