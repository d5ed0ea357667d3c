use Rattle.std.proofs.Common.{◌<◌, ◌++◌, [], ◌∷◌, length, map, take, ap, sym, ◌∙◌, arith}
use Rattle.std.proofs.lemmas.List.{map-append}
use Rattle.boss_model.specs.Records.{Transaction}
use Rattle.boss_stages.specs.Entries.{all_kept}
use Rattle.boss_stages.specs.Stages.{Tracked}
use Rattle.boss_stages.proofs.Order.{all_kept-more}
use Rattle.boss_stages.proofs.list.keep_all.Goals as goal

pub loop-place-preserved : goal.loop-place-preserved
loop-place-preserved c =
    let entries = c.args.entries.now.items in
    let place = c.loop-place.place in
    let entry = c.index.result.now in
    let record_of : Tracked → Transaction = λ one. one.transaction in
    let within : place < length entries = omega arith in
    let more = all_kept-more entries place entry within c.index.ensures in
    record {
      kept = c.in_ok-keep_entry.ensures.kept
          ∙ (ap (λ told. told ++ map record_of (all_kept (entry ∷ []))) c.loop-place.invariant.kept
          ∙ sym (ap (map record_of) more ∙ map-append record_of (all_kept (take place entries)) (all_kept (entry ∷ []))));
      few = omega (arith, c.keep_entry.ensures.one, c.loop-place.invariant.few);
      room = rw c.keep_entry.ensures.room c.loop-place.invariant.room;
    }
