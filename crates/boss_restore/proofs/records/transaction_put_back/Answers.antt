use Rattle.std.proofs.Common.{◌≡◌, length, map, ap, ◌∙◌, arith}
use Rattle.std.proofs.lemmas.List.{length-map}
use Rattle.boss_model.specs.Seen.{seen_part}
use Rattle.boss_restore.specs.Restoring.{reverting_points}
use Rattle.boss_restore.proofs.Played.{few-played}
use Rattle.boss_restore.proofs.records.transaction_put_back.Goals as goal

pub put_back-requires : goal.put_back-requires
put_back-requires c =
    let kept = c.args.kept.now in
    let pending = c.args.holdings.now.pending in
    let parts = map seen_part kept.parts in
    let points : length c.deref.result.now ≡ length (reverting_points pending kept.txn parts) = ap length (c.deref.ensures.value ∙ c.in_ok-reverting.ensures ∙ ap (λ ps. reverting_points pending kept.txn (map seen_part ps)) c.slice.ensures) in
    omega (arith, points, few-played pending kept.txn parts, length-map kept.parts seen_part)
