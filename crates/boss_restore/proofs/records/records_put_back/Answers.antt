use Rattle.std.proofs.Common.{◌≡◌, ◌<◌, map, ap, sym, ◌∙◌, subst}
use Rattle.std.specs.List.{AllByRecursion}
use Rattle.boss_model.specs.Records.{Transaction}
use Rattle.boss_model.specs.Seen.{seen, seen_txn}
use Rattle.boss_restore.specs.Restoring.{tracked}
use Rattle.boss_restore.proofs.Places.{parts-placed}
use Rattle.boss_restore.proofs.Tracking.{kept-placed, stands-for}
use Rattle.boss_restore.proofs.records.records_put_back.Goals as goal

pub transactions_put_back-requires-clause-numbers : goal.transactions_put_back-requires-clause-numbers
transactions_put_back-requires-clause-numbers c = rw c.slice.ensures c.requires.sound.2.numbers

pub transactions_put_back-requires-clause-points : goal.transactions_put_back-requires-clause-points
transactions_put_back-requires-clause-points c =
    let points = c.args.holdings.now.points in
    rw c.slice.ensures (kept-placed points c.args.kept.now.txns
    (subst (λ n. AllByRecursion (λ (t : Transaction). AllByRecursion (λ part. part.point < n) t.parts) (seen c.args.kept.now).txns) c.requires.sound.1
    (parts-placed c.requires.sound.0 (seen c.args.kept.now) c.requires.sound.2)))

pub put_back_done-requires-clause-none : goal.put_back_done-requires-clause-none
put_back_done-requires-clause-none c = c.in_ok-stages.ensures.done

pub put_back_done-requires-clause-few : goal.put_back_done-requires-clause-few
put_back_done-requires-clause-few c = rw c.slice-2.ensures c.requires.sound.2.few_done

pub returns-clause-stands : goal.returns-clause-stands
returns-clause-stands c =
    let d = seen c.args.kept.now in
    stands-for c.requires.sound.0 d c.put_back_done.new.self c.requires.sound.2
    (ap (λ s. s.kept) c.put_back_done.ensures ∙ c.in_ok-stages.ensures.kept ∙ (λ i. map (tracked (c.requires.pending i)) (map seen_txn (c.slice.ensures i))))
    (ap (λ s. s.done) c.put_back_done.ensures ∙ c.slice-2.ensures)
