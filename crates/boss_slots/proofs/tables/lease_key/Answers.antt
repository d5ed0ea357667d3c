use Rattle.std.proofs.Common.{◌∙◌, Some, ap, sym}
use Rattle.boss_slots.specs.Tables.{entry_in}
use Rattle.boss_slots.proofs.Kept.{no-lease-there, nothing-there}
use Rattle.boss_slots.proofs.tables.lease_key.Goals as goal

pub returns-in-Some-Pending-clause-none : goal.returns-in-Some-Pending-clause-none
returns-in-Some-Pending-clause-none c =
    let is = ap (λ xs. entry_in xs c.args.point c.args.priority) (sym c.deref.ensures.value) ∙ sym c.entry_at.ensures ∙ c.in-Some-Pending.is ∙ ap (λ o. Some o) c.in-Some-Pending.field-0-is in
    no-lease-there c.args.tables.now c.args.point c.args.priority c.in-Some-Pending.field-0-0 is

pub returns-in-None-clause-none : goal.returns-in-None-clause-none
returns-in-None-clause-none c =
    let is = ap (λ xs. entry_in xs c.args.point c.args.priority) (sym c.deref.ensures.value) ∙ sym c.entry_at.ensures ∙ c.in-None.is in
    (nothing-there c.args.tables.now c.args.point c.args.priority is).0
