use Rattle.std.proofs.Common.{sym, ◌∙◌, ap}
use Rattle.boss_stages.specs.Entries.{entry_kept}
use Rattle.boss_stages.proofs.Order.{kept_as_read, kept_as-none}
use Rattle.boss_stages.proofs.list.TransactionList.find.Goals as goal

pub returns-in_default : goal.returns-in_default
returns-in_default c = rw (← c.self.view_is) (sym (kept_as-none c.args.txn c.self.inside.entries.items (sym c.place_of.ensures.place ∙ c.in_default.is)))

pub returns-in-Kept : goal.returns-in-Kept
returns-in-Kept c =
    let found = sym c.place_of.ensures.place ∙ c.in-Some.is in
    let kept = kept_as_read c.args.txn c.self.inside.entries.items c.in-Some.place c.self.invariant.0 found c.index.result.now c.index.ensures in
    rw (← c.self.view_is) (sym (kept ∙ ap entry_kept c.in-Kept.is))

pub returns-in-Forgotten : goal.returns-in-Forgotten
returns-in-Forgotten c =
    let found = sym c.place_of.ensures.place ∙ c.in-Some.is in
    let kept = kept_as_read c.args.txn c.self.inside.entries.items c.in-Some.place c.self.invariant.0 found c.index.result.now c.index.ensures in
    rw (← c.self.view_is) (sym (kept ∙ ap entry_kept c.in-Forgotten.is))
