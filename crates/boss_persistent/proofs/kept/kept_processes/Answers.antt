use Rattle.std.proofs.Common.{◌∙◌, map, ap, arith}
use Rattle.boss_model.specs.Seen.{seen_process}
use Rattle.boss_persistent.proofs.Outlasting.{next-kept}
use Rattle.boss_persistent.proofs.kept.kept_processes.Goals as goal

pub loop-place-preserved : goal.loop-place-preserved
loop-place-preserved c = record {
  kept = ap (map seen_process) c.push_reserved.ensures.items
      ∙ next-kept c.loop-place.kept.items c.in_ok-keep.field-0 c.args.processes.now c.loop-place.place c.loop-place.invariant.kept (omega arith) c.in_ok-keep.ensures;
  room = rw c.push_reserved.ensures.capacity c.loop-place.invariant.room;
}
