use Rattle.std.proofs.Common.{◌≡◌, ◌<◌, map, take, ap, sym, ◌∙◌, subst, arith}
use Rattle.std.specs.List.{AllByRecursion}
use Rattle.std.proofs.lemmas.List.Elements.{All-from_recursion}
use Rattle.boss_model.specs.Seen.{seen_txn}
use Rattle.boss_stages.specs.Stages.{Tracked, number}
use Rattle.boss_restore.specs.Restoring.{tracked}
use Rattle.boss_restore.proofs.Tracking.{lesser-numbers}
use Rattle.boss_restore.proofs.records.transactions_put_back.Goals as goal

pub add-requires-clause-newest : goal.add-requires-clause-newest
add-requires-clause-newest c =
    let pending = c.args.holdings.now.pending in
    let place = c.loop-kept.kept-index in
    let before = map (tracked pending) (map seen_txn (take place c.args.txns.now)) in
    let same : c.reserve.new.self.kept ≡ before = c.reserve.ensures.same.0 ∙ c.loop-kept.invariant.put_back in
    let at : number c.in_ok-transaction.transaction ≡ c.kept-item.result.txn = ap number c.in_ok-transaction.ensures in
    All-from_recursion (λ (k : Tracked). number k < number c.in_ok-transaction.transaction) c.reserve.new.self.kept
    (subst (AllByRecursion (λ (k : Tracked). number k < number c.in_ok-transaction.transaction)) (sym same)
    (subst (λ n. AllByRecursion (λ (k : Tracked). number k < n) before) (sym at)
    (lesser-numbers pending c.args.txns.now place c.kept-item.result (omega arith) c.kept-item.is c.requires.numbers)))
