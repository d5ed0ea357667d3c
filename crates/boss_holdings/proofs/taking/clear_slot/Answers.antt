use Rattle.std.proofs.Common.{◌≡◌, ◌∙◌, [], ◌∷◌, ◌++◌, Some, None, length, get_or, refl, ap, sym, arith, append-nil}
use Rattle.std.specs.Option.{option_copied}
use Rattle.boss_model.specs.Submit.{cut, superseded}
use Rattle.boss_booking.specs.Gathered.{plain}
use Rattle.boss_slots.specs.Ending.{replaced_at}
use Rattle.boss_slots.specs.Tables.{entry_in, lease_at, pending_at}
use Rattle.boss_slots.proofs.Kept.{lease-there, moved-not, no-lease-there, no-pending-there, nothing-there, pending-there}
use Rattle.boss_holdings.proofs.taking.clear_slot.Goals as goal

pub push_reserved-requires : goal.push_reserved-requires
push_reserved-requires c =
    let is = ap (λ xs. entry_in xs c.args.point c.args.priority) (sym c.deref.ensures.value) ∙ sym c.entry_at.ensures ∙ c.in-Some-Lease.is ∙ ap (λ o. Some o) c.in-Some-Lease.field-0-is in
    let l = c.take_lease-lease.result in
    let one : lease_at c.args.tables.now c.args.point c.args.priority ≡ Some l = lease-there c.args.tables.now c.args.point c.args.priority c.in-Some-Lease.key is ∙ c.take_lease-lease.ensures.lease in
    let two = no-pending-there c.args.tables.now c.args.point c.args.priority c.in-Some-Lease.key is in
    let both : replaced_at c.args.by c.args.n (lease_at c.args.tables.now c.args.point c.args.priority) (pending_at c.args.tables.now c.args.point c.args.priority) ≡ plain (superseded c.args.by c.args.n l) ∷ [] = rw (one, two) refl in
    let size = ap length both in let room = c.requires.room in omega arith

pub push_reserved-requires-in-Some-Pending : goal.push_reserved-requires-in-Some-Pending
push_reserved-requires-in-Some-Pending c =
    let is = ap (λ xs. entry_in xs c.args.point c.args.priority) (sym c.deref.ensures.value) ∙ sym c.entry_at.ensures ∙ c.in-Some-Pending.is ∙ ap (λ o. Some o) c.in-Some-Pending.field-0-is in
    let r = c.unwrap-reversion.result.now in
    let there : get_or c.args.tables.now.pending.items c.in-Some-Pending.key None ≡ Some r = ap (λ xs. get_or xs c.in-Some-Pending.key None) (sym c.deref-in-Some-Pending.ensures.value) ∙ sym c.pending_of.ensures ∙ ap option_copied c.unwrap-reversion.ensures in
    let one = no-lease-there c.args.tables.now c.args.point c.args.priority c.in-Some-Pending.key is in
    let two : pending_at c.args.tables.now c.args.point c.args.priority ≡ Some r = pending-there c.args.tables.now c.args.point c.args.priority c.in-Some-Pending.key is ∙ there in
    let both : replaced_at c.args.by c.args.n (lease_at c.args.tables.now c.args.point c.args.priority) (pending_at c.args.tables.now c.args.point c.args.priority) ≡ plain (cut c.args.by c.args.n r) ∷ [] = rw (one, two) refl in
    let size = ap length both in let room = c.requires.room in omega arith

pub returns-in-Some-Lease-clause-told : goal.returns-in-Some-Lease-clause-told
returns-in-Some-Lease-clause-told c =
    let is = ap (λ xs. entry_in xs c.args.point c.args.priority) (sym c.deref.ensures.value) ∙ sym c.entry_at.ensures ∙ c.in-Some-Lease.is ∙ ap (λ o. Some o) c.in-Some-Lease.field-0-is in
    let l = c.take_lease-lease.result in
    let one : lease_at c.args.tables.now c.args.point c.args.priority ≡ Some l = lease-there c.args.tables.now c.args.point c.args.priority c.in-Some-Lease.key is ∙ c.take_lease-lease.ensures.lease in
    let two = no-pending-there c.args.tables.now c.args.point c.args.priority c.in-Some-Lease.key is in
    let both : replaced_at c.args.by c.args.n (lease_at c.args.tables.now c.args.point c.args.priority) (pending_at c.args.tables.now c.args.point c.args.priority) ≡ plain (superseded c.args.by c.args.n l) ∷ [] = rw (one, two) refl in
    c.push_reserved.ensures.items ∙ ap (λ x. c.args.told.now.items ++ x ∷ []) c.superseded.ensures ∙ ap (λ zs. c.args.told.now.items ++ zs) (sym both)

pub returns-in-Some-Pending-clause-told : goal.returns-in-Some-Pending-clause-told
returns-in-Some-Pending-clause-told c =
    let is = ap (λ xs. entry_in xs c.args.point c.args.priority) (sym c.deref.ensures.value) ∙ sym c.entry_at.ensures ∙ c.in-Some-Pending.is ∙ ap (λ o. Some o) c.in-Some-Pending.field-0-is in
    let r = c.unwrap-reversion.result.now in
    let there : get_or c.args.tables.now.pending.items c.in-Some-Pending.key None ≡ Some r = ap (λ xs. get_or xs c.in-Some-Pending.key None) (sym c.deref-in-Some-Pending.ensures.value) ∙ sym c.pending_of.ensures ∙ ap option_copied c.unwrap-reversion.ensures in
    let one = no-lease-there c.args.tables.now c.args.point c.args.priority c.in-Some-Pending.key is in
    let two : pending_at c.args.tables.now c.args.point c.args.priority ≡ Some r = pending-there c.args.tables.now c.args.point c.args.priority c.in-Some-Pending.key is ∙ there in
    let both : replaced_at c.args.by c.args.n (lease_at c.args.tables.now c.args.point c.args.priority) (pending_at c.args.tables.now c.args.point c.args.priority) ≡ plain (cut c.args.by c.args.n r) ∷ [] = rw (one, two) refl in
    c.push_reserved-in-Some-Pending.ensures.items ∙ ap (λ x. c.args.told.now.items ++ x ∷ []) c.cut.ensures ∙ ap (λ zs. c.args.told.now.items ++ zs) (sym both)

pub returns-in-None-clause-moved : goal.returns-in-None-clause-moved
returns-in-None-clause-moved c =
    let is = ap (λ xs. entry_in xs c.args.point c.args.priority) (sym c.deref.ensures.value) ∙ sym c.entry_at.ensures ∙ c.in-None.is in
    moved-not c.args.tables.now c.args.point c.args.priority is

pub returns-in-None-clause-told : goal.returns-in-None-clause-told
returns-in-None-clause-told c =
    let is = ap (λ xs. entry_in xs c.args.point c.args.priority) (sym c.deref.ensures.value) ∙ sym c.entry_at.ensures ∙ c.in-None.is in
    let none = nothing-there c.args.tables.now c.args.point c.args.priority is in
    rw (none.0, none.1) (sym (append-nil c.args.told.now.items))
