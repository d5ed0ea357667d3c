use Rattle.std.proofs.Common.{codes, sym, arith, rules}
use Rattle.std.proofs.lemmas.Int.{to_z-of_z}
use mir.Val.{SFits}
use mir.Syntax.{w64}
use Rattle.boss_answers.proofs.Puts.{puts, puts_both, puts_keyed, puts_within}
use Rattle.boss_answers.proofs.entries.put_entry.Goals as goal

pub returns : goal.returns
returns c =
    let of_default : SFits w64 c.args.point.now.default = search rules in
    let of_on : SFits w64 c.args.point.now.min_on = search rules in
    let of_off : SFits w64 c.args.point.now.min_off = search rules in
    let signed = simp to_z-of_z at c.write_signed.ensures in
    let minimums = simp to_z-of_z at c.write_times.ensures in
    let kind = puts_both (puts_both c.write_quoted.ensures (puts c.extend.ensures)) c.write_kind.ensures in
    let default = puts_keyed (codes ",\"default\":") _ kind signed in
    let driver = puts_keyed (codes ",\"driver\":") _ default c.write_quoted-2.ensures in
    let times = puts_both driver minimums in
    rw (sym c.driver_name.ensures) (puts_within (puts_both times (puts c.push.ensures)) (omega arith))
