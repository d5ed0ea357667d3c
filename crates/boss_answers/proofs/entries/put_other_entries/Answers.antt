use Rattle.std.proofs.Common.{ℕ, ◌+◌, ◌*◌, List, ◌∷◌, sym, subst, arith}
use Rattle.boss_points.specs.declared.point.Point.{Point}
use Rattle.boss_points.specs.Seen.{seen}
use Rattle.boss_points.proofs.Fed.{flat_map-take_more}
use Rattle.def_wire.specs.Texts.{entry_text}
use Rattle.boss_answers.specs.Room.{PutsAtMost}
use Rattle.boss_answers.proofs.Puts.{puts_both, puts_within}
use Rattle.boss_answers.proofs.entries.put_other_entries.Goals as goal

pub loop-point-preserved : goal.loop-point-preserved
loop-point-preserved c =
    let place = c.loop-point.point-index in
    let text : Point → List ℕ = λ point. 44 ∷ entry_text c.args.catalogue.now (seen point) in
    let one_more = flat_map-take_more text c.args.points.now place c.point-item.result c.loop-point-test.true c.point-item.is in
    subst (PutsAtMost (320 * (place + 1)) c.args.into.now c.put_other_entry.new.into) (sym one_more)
    (puts_within (puts_both c.loop-point.invariant c.put_other_entry.ensures) (omega arith))
