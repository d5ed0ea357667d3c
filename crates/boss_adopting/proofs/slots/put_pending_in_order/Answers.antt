use Rattle.std.proofs.Common.{rules}
use Rattle.std.proofs.lemmas.List.Sorted.{answers_always}
use Rattle.boss_model.specs.State.{pending_slot}
use Rattle.law_due.proofs.Ordering.{is_before, is_before-orders, sorted-in_order}
use Rattle.boss_adopting.proofs.slots.put_pending_in_order.Goals as goal

-- what the sort gives is in order, and has the items that there were
pub returns : goal.returns
returns c = sorted-in_order pending_slot c.args.pending.now.items c.requires c.sort_unstable_by.new.self.items c.sort_unstable_by.ensures.permutation
    (c.sort_unstable_by.ensures.sorted (is_before pending_slot) (is_before-orders pending_slot) (answers_always _ _ _ (λ f a r g h. search rules)))
