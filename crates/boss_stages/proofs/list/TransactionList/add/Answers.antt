use Rattle.std.proofs.Common.{[], ◌∷◌, length, length-append, refl, ap, arith}
use Rattle.boss_stages.specs.declared.entry.Entry.TheVariants.{Kept}
use Rattle.boss_stages.specs.Entries.{all_kept}
use Rattle.boss_stages.proofs.Order.{all_kept-append, Rising-push, few-kept}
use Rattle.boss_stages.proofs.list.TransactionList.add.Goals as goal

pub overflow_sub-self : goal.overflow_sub-self
overflow_sub-self c = omega (arith, few-kept c.leave_below.new.entries.items, ap length c.leave_below.ensures.kept, c.leave_below.ensures.taken, c.self.invariant.1)

pub invariant_of-self : goal.invariant_of-self
invariant_of-self c =
    let entries = c.leave_below.new.entries.items in
    let kept = all_kept-append entries (Kept c.args.transaction ∷ []) in
    rw c.push_back_reserved.ensures.items (
      Rising-push entries (Kept c.args.transaction) c.leave_below.ensures.rising (rw c.number-number.ensures at c.leave_below.ensures.below),
      omega (arith, ap length kept, length-append (all_kept entries) (c.args.transaction ∷ []), length-append entries (Kept c.args.transaction ∷ []), few-kept entries, ap length c.leave_below.ensures.kept, c.leave_below.ensures.taken, c.self.invariant.1),
      omega (arith, c.self.invariant.2),
    )

pub returns : goal.returns
returns c =
    rw (← c.self.view_is, c.push_back_reserved.ensures.items, c.push_back_reserved.ensures.capacity, c.leave_below.ensures.room, all_kept-append c.leave_below.new.entries.items (Kept c.args.transaction ∷ []), c.leave_below.ensures.kept) refl
