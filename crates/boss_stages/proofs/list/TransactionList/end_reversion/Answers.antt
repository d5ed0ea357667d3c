use Rattle.std.proofs.Common.{◌≡◌, refl, sym, ◌∙◌, ap, arith}
use Rattle.std.proofs.lemmas.List.{length-set}
use Rattle.boss_stages.specs.Entries.{entry_number}
use Rattle.boss_stages.specs.Stages.{is_over, without_reversion}
use Rattle.boss_stages.proofs.Order.{kept_as_set, kept_as-none, changed_read, changed-none, count_read, rising_set, number-entry_with}
use Rattle.boss_stages.proofs.list.TransactionList.end_reversion.Goals as goal

pub returns-in_default-clause-kept : goal.returns-in_default-clause-kept
returns-in_default-clause-kept c =
    rw (← c.self.view_is, changed-none c.args.txn (without_reversion c.args.point) c.self.inside.entries.items (sym c.place_of.ensures.place ∙ c.in_default.is)) refl

pub returns-in_default-clause-over : goal.returns-in_default-clause-over
returns-in_default-clause-over c =
    rw (← c.self.view_is, kept_as-none c.args.txn c.self.inside.entries.items (sym c.place_of.ensures.place ∙ c.in_default.is)) refl

pub invariant_of-self : goal.invariant_of-self
invariant_of-self c =
    let entries = c.self.inside.entries.items in
    let found = sym c.place_of.ensures.place ∙ c.in-Some.is in
    let entry = c.index_mut.result.now in
    let new = c.end_reversion.new.self in
    let change = without_reversion c.args.point in
    let same : entry_number new ≡ entry_number entry = ap entry_number c.end_reversion.ensures.entry ∙ number-entry_with change (λ kept. refl) entry in
    let count = count_read c.args.txn entries c.in-Some.place c.self.invariant.0 found entry c.index_mut.ensures.value change new c.end_reversion.ensures.entry in (
      rising_set c.args.txn entries c.in-Some.place c.self.invariant.0 found entry c.index_mut.ensures.value new same,
      omega (arith, length-set entries c.in-Some.place new, count, c.self.invariant.1),
      c.self.invariant.2,
    )

pub returns-clause-kept : goal.returns-clause-kept
returns-clause-kept c =
    let found = sym c.place_of.ensures.place ∙ c.in-Some.is in
    let kept = changed_read c.args.txn c.self.inside.entries.items c.in-Some.place c.self.invariant.0 found c.index_mut.result.now c.index_mut.ensures.value (without_reversion c.args.point) c.end_reversion.new.self c.end_reversion.ensures.entry in
    rw (← c.self.view_is, kept) refl

pub returns-clause-over : goal.returns-clause-over
returns-clause-over c =
    let found = sym c.place_of.ensures.place ∙ c.in-Some.is in
    let entry = c.index_mut.result.now in
    let new = c.end_reversion.new.self in
    let same : entry_number new ≡ entry_number entry = ap entry_number c.end_reversion.ensures.entry ∙ number-entry_with (without_reversion c.args.point) (λ kept. refl) entry in
    c.end_reversion.ensures.over ∙ ap is_over (sym (kept_as_set c.args.txn c.self.inside.entries.items c.in-Some.place c.self.invariant.0 found entry c.index_mut.ensures.value new same))
