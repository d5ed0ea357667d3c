use Rattle.std.proofs.Common.{◌≡◌, Some, None, sym, ap, arith}
use Rattle.std.specs.Prelude.{slice_get}
use Rattle.std.proofs.lemmas.Grind.{common_steps}
use Rattle.std.proofs.lemmas.Option.{slice_get_cases}
use Rattle.boss_notices.proofs.Copies.{take_more_at}
use Rattle.boss_notices.proofs.ring.Ring.copy.Goals.{in-Some, in_default}
use Rattle.boss_notices.proofs.ring.Ring.copy.Goals as goal

pub loop-index-preserved : goal.loop-index-preserved
loop-index-preserved c =
    let kept : c.self.inside.kept.items ≡ c.args.self.now.kept = ap (λ r. r.kept) c.self.view_is in
    elim c.match-get.branch [
      | in-Some w ↦
          let there : slice_get c.args.self.now.kept c.loop-index.index ≡ Some w.in-Some.notice.now = rw (← kept) (sym (rw w.in-Some.is at c.get.ensures)) in
          let more = take_more_at c.args.self.now.kept c.args.place c.loop-index.index w.in-Some.notice.now c.loop-index.auto.index there in
          record {
            copied = rw (w.into-is, w.push_reserved.ensures.items, c.loop-index.invariant.copied) (sym more);
            room = rw (w.into-is, w.push_reserved.ensures.capacity) c.loop-index.invariant.room;
            same_room = rw (w.into-is, w.push_reserved.ensures.capacity) c.loop-index.invariant.same_room;
          }
      | in_default w ↦
          let past : None ≡ slice_get c.args.self.now.kept c.loop-index.index = rw (← kept) (rw w.in_default.is at c.get.ensures) in
          absurd (grind (arith, common_steps, past, slice_get_cases c.args.self.now.kept c.loop-index.index))
    ]
