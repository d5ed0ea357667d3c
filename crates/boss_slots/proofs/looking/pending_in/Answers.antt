use Rattle.std.proofs.Common.{◌∙◌, Some, None, get_or, ap, sym}
use Rattle.boss_slots.specs.Tables.{entry_in}
use Rattle.boss_slots.proofs.Kept.{no-pending-there, nothing-there, pending-there}
use Rattle.boss_slots.proofs.looking.pending_in.Goals as goal

pub returns-in-Some-Pending : goal.returns-in-Some-Pending
returns-in-Some-Pending c =
    let is = ap (λ xs. entry_in xs c.args.point c.args.priority) (sym c.deref.ensures.value) ∙ sym c.entry_at.ensures ∙ c.in-Some-Pending.is ∙ ap (λ o. Some o) c.in-Some-Pending.field-0-is in
    c.pending_of.ensures ∙ ap (λ xs. get_or xs c.in-Some-Pending.key None) c.deref-in-Some-Pending.ensures.value ∙ sym (pending-there c.args.tables.now c.args.point c.args.priority c.in-Some-Pending.key is)

pub returns-in-Some-Lease : goal.returns-in-Some-Lease
returns-in-Some-Lease c =
    let is = ap (λ xs. entry_in xs c.args.point c.args.priority) (sym c.deref.ensures.value) ∙ sym c.entry_at.ensures ∙ c.in-Some-Lease.is ∙ ap (λ o. Some o) c.in-Some-Lease.field-0-is in
    sym (no-pending-there c.args.tables.now c.args.point c.args.priority c.in-Some-Lease.field-0-0 is)

pub returns-in-None : goal.returns-in-None
returns-in-None c =
    let is = ap (λ xs. entry_in xs c.args.point c.args.priority) (sym c.deref.ensures.value) ∙ sym c.entry_at.ensures ∙ c.in-None.is in
    sym (nothing-there c.args.tables.now c.args.point c.args.priority is).1
