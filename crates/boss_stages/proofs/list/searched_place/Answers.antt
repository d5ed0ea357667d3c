use Rattle.std.proofs.Common.{◌≡◌, length, deque_len, rules, sym, ◌∙◌, arith}
use Rattle.std.proofs.lemmas.List.Sorted.{answers_always}
use Rattle.boss_stages.specs.Entries.{entry_number}
use Rattle.boss_stages.proofs.Order.{searched}
use Rattle.boss_stages.proofs.list.searched_place.Goals as goal

pub returns-clause-place : goal.returns-clause-place
returns-clause-place c =
    let entries = c.args.entries.now in
    let facts = c.binary_search_by_key.ensures in
    let by_key = facts.position entry_number (answers_always _ _ _ (λ f a r g called. search rules)) in
    let len : deque_len entries ≡ length entries.items = omega arith in
    let place = searched entries.items c.requires c.txn.inside.0 c.binary_search_by_key.result (deque_len entries) len facts.bound by_key in
    rw (← c.txn.view_is) (c.ok.ensures.value ∙ sym place)
